-- Demand 3, over the entries' definitions: `plan` and `run` from text to text. Proved in Found and Unrefused of `fair_plans`.
--
-- The words: `FairPlan x p` says that the text p is a plan of x by document 01's rules, whatever the costs and samples, `Runs x` that the query has
-- neither predicates nor collections and no Eq that is never lowered, `plan_for x h` is the plan's text (h: the table text that is handed in beside the
-- query, or none), `InShapes` that each operator has the shape that the query uses, `Enough` what allowance and output must give, `Finds` that the lines
-- written are exactly those of the query's matches, each once.
-- `none`: the run names no atom, and `validation` has all its tests. What holds of one that names an atom (Note 1) stands in NewRows.
use Rattle.std.specs.Prelude.{ℕ, ◌≤◌, ◌≡◌, refl, ◌⊎◌, true, length, drop}
use Rattle.std.proofs.Math.Option.{Option, none}
use mathlib.Core.List.{List, ◌++◌, Memᴰ, Perm}
use Rattle.std.proofs.Common.{le-ltb}
use Rattle.fair_plans.specs.Kinds.{plan as plan_text}
use Rattle.fair_plans.specs.Text.TheVariants.{Query}
use Rattle.fair_plans.specs.Reading.{Accepted}
use Rattle.fair_plans.specs.Second.{reading, query_reading}
use Rattle.fair_plans.specs.Atoms.{Atom, is_run}
use Rattle.fair_plans.specs.Matching.{InShapes}
use Rattle.fair_plans.proofs.Alike.{alike, exact_same}
use Rattle.fair_plans.specs.QueryPlans.{atoms_of}
use Rattle.fair_plans.specs.Planner.{is_handed, table_reading, plan}
use Rattle.fair_plans.specs.Tables.{table_of}
use Rattle.fair_plans.specs.Validation.{Passed, Invalid, validation}
use Rattle.fair_plans.specs.Run.{Result, run}
use Rattle.fair_plans.specs.Terms.{plan_for, FairPlan, line_of, EqualitiesLowered, Runs, GlobalsGiven, table_tests, Enough, Finds, Alike}
use Rattle.fair_plans.proofs.PlanBack.{planner_fair}
use Rattle.fair_plans.proofs.Equalities.{equalities_lowered}
use Rattle.fair_plans.proofs.Unrefused.{only_the_table, plan_refusal}
use Rattle.fair_plans.proofs.Found.{finds}

-- The text that the planner writes for a query that is accepted with h beside it, where with frame 24 the table is accepted too and there is room for it, is
-- the plan that is spoken of below. (Such a query is accepted by `reading Query`, too: `query_accepted` of QueryLaws in `second_reading`.)
pub writes_plan : (x : List ℕ) (h : Option (List ℕ)) (o : List ℕ) (n c m r : ℕ) → query_reading (is_handed h) x ≡ Accepted n c → table_reading x h ≡ Accepted m r
    → length (plan_for x h) ≤ length o → (plan x h o).output ≡ plan_for x h ++ drop (length (plan_for x h)) o
unfolding plan
writes_plan x h o n c m r ok read room = rw (ok, read, le-ltb (length o) (length (plan_for x h)) room)

-- Every accepted query x that runs, every plan text p of it by a fair choice, every table text t in shape on which the run of the plan is not refused,
-- whatever allowance and output that are enough: the run is done and writes the matches. That the run is not refused depends on neither: `not_refused`
-- of Refusals, with `tests_passed` of Found.
pub fair_demand3 : (x p t : List ℕ) (n c : ℕ) → reading Query x ≡ Accepted n c → FairPlan x p → Runs x → validation p t ≡ Passed
    → InShapes (table_of t) (atoms_of x)
    → (A : ℕ) (o : List ℕ) → Enough p t none A o → Finds x p t none o (run p t none A o)
fair_demand3 x p t n c ok f q passed sh = finds x p t n c ok f q passed sh none refl

-- .. so the planner's own plan, whatever table is handed in
pub demand3 : (x : List ℕ) (h : Option (List ℕ)) (t : List ℕ) (n c : ℕ) → reading Query x ≡ Accepted n c → Runs x → validation (plan_for x h) t ≡ Passed
    → InShapes (table_of t) (atoms_of x)
    → (A : ℕ) (o : List ℕ) → Enough (plan_for x h) t none A o → Finds x (plan_for x h) t none o (run (plan_for x h) t none A o)
demand3 x h t n c ok = fair_demand3 x (plan_for x h) t n c ok (planner_fair x n c ok h)

-- A query of these kinds all of whose equalities its plan lowers is one that runs: nothing is asked of it that the plan does not show.
pub lowered_runs : (x p : List ℕ) → ((a : Atom) → Memᴰ a (atoms_of x) → is_run a ≡ true) → EqualitiesLowered x p → Runs x
lowered_runs = equalities_lowered

-- The plan is the cause of no refusal: over a table in shape, with a class for every global that an atom names, the run is refused as the
-- table alone is.
pub no_refusal : (x : List ℕ) (h : Option (List ℕ)) (t : List ℕ) (n c : ℕ) → reading Query x ≡ Accepted n c → Runs x → InShapes (table_of t) (atoms_of x)
    → GlobalsGiven x t → validation (plan_for x h) t ≡ table_tests t
no_refusal x h t n c ok q = only_the_table x (plan_for x h) t n c ok (planner_fair x n c ok h) q.kinds

-- Over any table at all its lines are refused for 11 or for a missing global alone: it is accepted as a text, and none is 9 or 10.
-- (That no step of a plan, of any of the 14 kinds, reads a variable that no earlier step has bound is `bound_before_read` of the planner's
-- Promised.)
pub no_nine_no_ten : (x : List ℕ) (h : Option (List ℕ)) (t : List ℕ) (n c : ℕ) → reading Query x ≡ Accepted n c → Runs x → (k l : ℕ)
    → validation (plan_for x h) t ≡ Invalid k plan_text l → (k ≡ 11) ⊎ (k ≡ 5)
no_nine_no_ten x h t n c ok q = plan_refusal x (plan_for x h) t n c ok (planner_fair x n c ok h) q.kinds

-- The plans of two queries alike in header and atoms, by whatever fair choices, find the same lines, as often. (So are two texts that differ in the
-- order of lines and in costs, fan-outs and samples: `alike_lines` of AlikeLines.)
pub same_lines : (x y p r t : List ℕ) → Alike x y → (o : List ℕ) (a : Result) (f : Finds x p t none o a) (u : List ℕ) (b : Result) (g : Finds y r t none u b)
    → Perm f.lines g.lines
same_lines x y p r t s o a f u b g =
    let e = exact_same (table_of t) (line_of x) (atoms_of x) (atoms_of y) s.atoms f.lines f.matches_are in
    alike (table_of t) none (line_of y) (atoms_of y) f.lines g.lines (rw (s.variables, s.literals) at e) g.matches_are
