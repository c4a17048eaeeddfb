-- The words of demand 3, each as document 01 has it, with the atom that a run may name by Note 1. Matches are those of `Matching` in the crate model:
-- defined from "A match is an assignment ..", without plans and steps.
use Rattle.std.specs.Prelude.{ℕ, ◌<◌, ◌≤◌, ◌≡◌, ◌≢◌, true, length, drop}
use Rattle.std.proofs.Math.Option.{Option}
use mathlib.Core.List.{List, [], ◌∷◌, ◌++◌, map, flat_map, Memᴰ}
use Rattle.running.specs.Kinds.{table}
use Rattle.running.specs.First.{frames_of}
use Rattle.running.specs.Text.TheVariants.{Table}
use Rattle.running.specs.Second.{reading}
use Rattle.running.specs.Atoms.{Atom, Plain, Lit, LitBind, Eq, EqGlobal, Pred, Variadic, is_run, Step}
use Rattle.running.specs.Waiting.{is_eq, Unbound}
use Rattle.running.specs.Bound.{has}
use Rattle.running.specs.Lists.{Pairs}
use Rattle.running.specs.Scheduling.{State, Chosen, Fair, atom_of, numbers, schedule}
use Rattle.running.specs.Matching.{Line, Counts, Exact, SameAtoms}
use Rattle.running.specs.ModelLimits.{Done}
use Rattle.running.specs.Running.{Mode, founds, attempts}
use Rattle.fitting.specs.QueryPlans.{atoms_of, count_at, text_for}
use Rattle.fitting.specs.Planner.{plan_of}
use Rattle.running.specs.Tables.{table_of}
use Rattle.running.specs.Validation.{Verdict, and_then, of_reading, shapes_from, global_of, all_given}
use Rattle.running.specs.Run.{events, match_line, line_text, Ran, Result}

-- the plan of the query text x with the table text h handed in beside it, or none
abbrev pub plan_for : List ℕ → Option (List ℕ) → List ℕ
plan_for x h = (plan_of x h).text

-- A plan text for the query text x, by whatever fair choice: document 01's rules, with any costs, any samples and any memory of them. The planner's is one
-- (`planner_fair` of PlanBack).
pub record FairPlan (x p : List ℕ) : Type 1 where
  pub Memory : Type 0
  pub choose : Memory → State → Chosen Memory
  pub start : Memory
  pub fair : Fair (atom_of (atoms_of x)) (numbers (atoms_of x)) choose
  pub tallied : ℕ
  pub rejected : ℕ
  pub tallied_few : tallied < 65536
  pub rejected_few : rejected < 65536
  pub text : p ≡ text_for x tallied rejected (schedule (atoms_of x) choose start).steps

-- its steps
abbrev pub fair_steps : {x p : List ℕ} → FairPlan x p → List Step
fair_steps {x} f = (schedule (atoms_of x) f.choose f.start).steps

-- what a match line of the query has: no sequences
abbrev pub line_of : List ℕ → Counts
line_of x = record { variables = count_at x 1; literals = count_at x 3; sequences = 0 }

-- its atoms are of the kinds that run, and none is "an Eq with both sides finally unbound", which is never lowered
pub record Runs (x : List ℕ) : Type 0 where
  pub kinds : (a : Atom) → Memᴰ a (atoms_of x) → is_run a ≡ true
  pub lowered : (a : Atom) → Memᴰ a (atoms_of x) → Unbound (atoms_of x) a → ⊥

-- p is a plan of the query x, and every Eq of x is lowered by it: the plan has the steps that it becomes
pub record EqualitiesLowered (x p : List ℕ) : Type 1 where
  pub by : FairPlan x p
  pub all : (k : ℕ) → k < length (atoms_of x) → is_eq (atom_of (atoms_of x) k) ≡ true → has (schedule (atoms_of x) by.choose by.start).used k ≡ true

-- the globals that an atom names
abbrev pub atom_globals : Atom → List ℕ
atom_globals (Plain n o cs) = flat_map global_of cs
atom_globals (Lit n o x) = []
atom_globals (LitBind n o l) = []
atom_globals (Eq a b) = []
atom_globals (EqGlobal a g) = g ∷ []
atom_globals (Pred g ds) = []
atom_globals (Variadic n o cs f) = flat_map global_of cs

-- the table text t has a class for each of them
abbrev pub GlobalsGiven : List ℕ → List ℕ → Type 0
GlobalsGiven x t = (a : Atom) → Memᴰ a (atoms_of x) → all_given (table_of t) (atom_globals a) ≡ true

-- the tests of the table alone: as a text, then "operator with two shapes in the table"
abbrev pub table_tests : List ℕ → Verdict
table_tests t = and_then (of_reading table (reading Table t)) (shapes_from [] 0 (frames_of t))

-- "Enough allowance is the tries of a run without limit, enough output the room for all match lines, or more." md: the atom that the run names, or none
abbrev pub all_lines : List ℕ → List ℕ → Mode → List Line
all_lines p t md = map (match_line p) (founds (events p t md))

pub record Enough (p t : List ℕ) (md : Mode) (A : ℕ) (o : List ℕ) : Type 0 where
  pub tries : attempts (events p t md) ≤ A
  pub room : length (flat_map line_text (all_lines p t md)) ≤ length o

-- the run of the plan text p is done, with the tries that its definition counts; the lines are exactly the matches of the query x, each once, and
-- their number is the one reported; they are what is written, no two of them with the same text, and "bytes past the written lines keep their values".
-- md: the atom that the run names, or none. Where one is named, a match is one by the rows that Note 1 lets each atom have.
pub record Finds (x p t : List ℕ) (md : Mode) (o : List ℕ) (r : Result) : Type 0 where
  pub lines : List Line
  pub matches_are : Exact (table_of t) md (line_of x) (atoms_of x) lines
  pub apart : Pairs ◌≢◌ (map line_text lines)
  pub outcome : r.outcome ≡ Ran Done (attempts (events p t md)) (length lines) (length (flat_map line_text lines))
  pub output : r.output ≡ flat_map line_text lines ++ drop (length (flat_map line_text lines)) o

-- two queries alike in header and atoms, in whatever order, with whatever costs, fan-outs and samples
pub record Alike (x y : List ℕ) : Type 0 where
  pub variables : count_at x 1 ≡ count_at y 1
  pub literals : count_at x 3 ≡ count_at y 3
  pub atoms : SameAtoms (atoms_of x) (atoms_of y)
