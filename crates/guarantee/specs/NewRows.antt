-- Note 1: "Where the guarantee on matches holds, those using a new row must be found over the named atoms together, each under exactly one." Over the
-- entries' definitions, as demand 3. Proved in Found and NewRows of `fair_plans`, from Modes of the crate model.
--
-- The words beside those of Demand3: `run p t (some a) ..` is the run that names the atom a, `has_join a (plan_steps p)` says that a has a Join in the plan p,
-- `UsesNew` that an atom which becomes a Join holds by a new row. The run that names none is the one of Demand3: it finds all matches, by old rows and new.
use Rattle.std.specs.Prelude.{ℕ, ◌≡◌, true}
use Rattle.std.proofs.Math.Option.{none, some}
use mathlib.Core.List.{List, Memᴰ}
use Rattle.fair_plans.specs.Text.TheVariants.{Query}
use Rattle.fair_plans.specs.Reading.{Accepted}
use Rattle.fair_plans.specs.Second.{reading}
use Rattle.fair_plans.specs.Refusing.{has_join}
use Rattle.fair_plans.specs.Matching.{InShapes, Line, IsMatch}
use Rattle.fair_plans.specs.NewRows.{UsesNew}
use Rattle.fair_plans.proofs.Modes.{some_atom, under_uses, under_match, one_atom}
use Rattle.fair_plans.specs.QueryPlans.{atoms_of}
use Rattle.fair_plans.specs.Tables.{table_of, plan_steps}
use Rattle.fair_plans.specs.Validation.{Passed, validation}
use Rattle.fair_plans.specs.Run.{run}
use Rattle.fair_plans.specs.Terms.{FairPlan, line_of, Runs, Enough, Finds}
use Rattle.fair_plans.proofs.Found.{given, finds}
use Rattle.fair_plans.proofs.NewRows.{named_joined, under, atom_join}

-- "those using a new row": the line y is a match of the query x over the table t, and uses a new row
pub record NewMatch (x t : List ℕ) (y : Line) : Type 0 where
  pub match : IsMatch (table_of t) none (line_of x) (atoms_of x) y
  pub uses : UsesNew (table_of t) (atoms_of x) y

-- the run that names the atom a, with allowance A and output o, is done and writes the matches that it should
abbrev pub FindsUnder : List ℕ → List ℕ → List ℕ → ℕ → ℕ → List ℕ → Type 0
FindsUnder x p t a A o = Finds x p t (some a) o (run p t (some a) A o)

-- "found .. under" an atom: it has a Join, and whatever allowance and output that are enough, y is among the lines that the run which names it writes
pub record FoundUnder (x p t : List ℕ) (y : Line) : Type 0 where
  pub atom : ℕ
  pub joined : has_join atom (plan_steps p) ≡ true
  pub written : (A : ℕ) (o : List ℕ) → Enough p t (some atom) A o → (g : FindsUnder x p t atom A o) → Memᴰ y g.lines

-- "Where the guarantee on matches holds": every accepted query x that runs, every plan text p of it by a fair choice (so the planner's own), every table
-- text t in shape, both passing the tests of a run that names no atom
module _ (x p t : List ℕ) (n c : ℕ) (ok : reading Query x ≡ Accepted n c) (f : FairPlan x p) (q : Runs x)
    (passed : validation p t ≡ Passed) (sh : InShapes (table_of t) (atoms_of x)) where
  -- "A run may name one atom as its new one": with allowance and output that are enough, the run that names an atom with a Join is done and writes exactly
  -- the matches in which that atom holds by a new row, lower ones by old rows, higher ones by any.
  pub named_finds : (a : ℕ) → has_join a (plan_steps p) ≡ true → (A : ℕ) (o : List ℕ) → Enough p t (some a) A o → FindsUnder x p t a A o
  named_finds a h = finds x p t n c ok f q passed sh (some a) (rw h)

  -- "those using a new row must be found over the named atoms together"
  pub new_found : (y : Line) → NewMatch x t y → FoundUnder x p t y
  new_found y m =
      let u = some_atom (table_of t) (line_of x) (atoms_of x) y m.match m.uses in
      record { atom = u.atom; joined = atom_join x p n c ok f q u.atom u.below u.joined; written = λ A o e g. g.matches_are.complete y u.match }

  -- .. and nothing else is: every line that a run under a named atom writes is a match that uses a new row. (An atom without a Join is refused.)
  pub found_new : (a A : ℕ) (o : List ℕ) (g : FindsUnder x p t a A o) (y : Line) → Memᴰ y g.lines → NewMatch x t y
  found_new a A o g y m =
      let u = under x p n c ok f t a (named_joined x p t a A o g) y (g.matches_are.sound y m) in
      record { match = under_match (table_of t) (line_of x) (atoms_of x) y u; uses = under_uses (table_of t) (line_of x) (atoms_of x) y u }

  -- "each under exactly one": a line written under the atoms a and b is written under one
  pub found_once : (a A : ℕ) (o : List ℕ) (g : FindsUnder x p t a A o) (b B : ℕ) (u : List ℕ) (h : FindsUnder x p t b B u) (y : Line)
      → Memᴰ y g.lines → Memᴰ y h.lines → a ≡ b
  found_once a A o g b B u h y i j =
      let w = given x p t n c ok f q passed sh in
      one_atom (table_of t) (line_of x) (atoms_of x) y sh w.distinct w.tame
      (under x p n c ok f t a (named_joined x p t a A o g) y (g.matches_are.sound y i))
      (under x p n c ok f t b (named_joined x p t b B u h) y (h.matches_are.sound y j))
