-- A plan of a query that runs, in a run that names an atom (Note 1): the atoms with a Join in the plan are exactly those of the query that become Joins
-- (`join_atom`, `atom_join`), and a run that is done has named one of them (`named_joined`). Proved from the lowering sequence, and from 12.
use Prim.Native.Nat.{ℕ, ◌<◌}
use mathlib.Core.Path.{◌≡◌, refl, sym, ◌∙◌, ap}
use mathlib.Core.Bool.{Bool, true, false}
use mathlib.Core.Option.{some}
use mathlib.Core.List.{List}
use native.Mathlib.Omega.{arith}
use lib.ListN.{length}
use Rattle.running.specs.Choose.{pick}
use Rattle.running.specs.Kinds.{plan}
use Rattle.running.specs.Text.TheVariants.{Query}
use Rattle.running.specs.Reading.{Accepted}
use Rattle.running.specs.Second.{reading}
use Rattle.running.specs.Refusing.{has_join}
use Rattle.running.specs.Scheduling.{scans, atom_of}
use Rattle.running.specs.Matching.{Line, IsMatch}
use Rattle.running.proofs.Modes.{Under}
use Rattle.running.proofs.Joins.{JoinedIn, plan_joins, joins_plan}
use Rattle.running.proofs.Guarantee.{made, known_below, all_of}
use Rattle.fitting.specs.QueryPlans.{atoms_of}
use Rattle.running.specs.Tables.{table_of, plan_steps}
use Rattle.running.specs.Validation.{Verdict, Passed, Invalid, and_then, validation, validation_with}
use Rattle.running.specs.Run.{run}
use Rattle.running.proofs.Refusals.{not_refused}
use Rattle.fair_plans.specs.Terms.{FairPlan, line_of, Runs, Finds}
use Rattle.fair_plans.proofs.PlanBack.{plan_steps_lem}
use Rattle.fair_plans.proofs.Found.{all}

-- an atom without a Join is refused
pub named_joined : (x p t : List ℕ) (a A : ℕ) (o : List ℕ) → Finds x p t (some a) o (run p t (some a) A o) → has_join a (plan_steps p) ≡ true
unfolding validation_with
named_joined x p t a A o f = by (validation p t) (has_join a (plan_steps p)) (not_refused p t (some a) A o (λ k y l e. let w = f.outcome in let z : ◌≡◌ {A = ℕ} 0 1 = cc in omega arith))
  where
    by : (v : Verdict) (b : Bool) → and_then v (pick b Passed (Invalid 12 plan 0)) ≡ Passed → b ≡ true
    by Passed true h = refl
    by Passed false h = let z : ◌≡◌ {A = ℕ} 0 1 = cc in absurd (omega arith)
    by (Invalid k y l) b h = let z : ◌≡◌ {A = ℕ} 0 1 = cc in absurd (omega arith)

module _ (x p : List ℕ) (n c : ℕ) (ok : reading Query x ≡ Accepted n c) (f : FairPlan x p) where
  -- an atom with a Join in the plan is one of the query's, and becomes a Join
  pub join_atom : (a : ℕ) → has_join a (plan_steps p) ≡ true → JoinedIn (atom_of (atoms_of x)) (made (atoms_of x) f.choose f.start f.fair).order a
  join_atom a h = plan_joins (made (atoms_of x) f.choose f.start f.fair).lowered a (ap (has_join a) (sym (plan_steps_lem x n c ok p f)) ∙ h)

  -- so a match in the mode that names it is one under an atom of the query
  abbrev pub under : (t : List ℕ) (a : ℕ) → has_join a (plan_steps p) ≡ true → (y : Line) → IsMatch (table_of t) (some a) (line_of x) (atoms_of x) y → Under (table_of t) (line_of x) (atoms_of x) y
  under t a h y m = record { atom = a; below = known_below (atoms_of x) f.choose f.start f.fair a (join_atom a h).within; joined = (join_atom a h).joined; match = m }

  -- and back: every atom of a query that runs is lowered
  pub atom_join : Runs x → (a : ℕ) → a < length (atoms_of x) → scans (atom_of (atoms_of x) a) ≡ true → has_join a (plan_steps p) ≡ true
  atom_join q a h j = ap (has_join a) (plan_steps_lem x n c ok p f)
      ∙ joins_plan (made (atoms_of x) f.choose f.start f.fair).lowered a (record { within = (all_of (atoms_of x) f.choose f.start f.fair (all x p f q)).every a h; joined = j })
