-- A plan of an accepted query of the kinds that run is the cause of no refusal: over a table in shape, with a class for every global that
-- an atom names, only the table's own tests can fail (`only_the_table`). Proved from the lowering sequence.
use Prim.Native.Nat.{ℕ, zero, suc}
use mathlib.Core.Path.{◌≡◌, refl}
use mathlib.Core.Logic.{◌⊎◌, inl, inr}
use mathlib.Core.Bool.{Bool, true, false}
use mathlib.Core.List.{List, [], ◌∷◌, Memᴰ}
use native.Mathlib.Omega.{arith}
use lib.ListN.{replicate}
use Rattle.running.specs.Choose.{pick}
use Rattle.running.specs.Kinds.{plan, table}
use Rattle.running.specs.Limits.{variables_most}
use Rattle.running.specs.First.{frames_of}
use Rattle.running.specs.Text.TheVariants.{Query, Table as TableText}
use Rattle.running.specs.Reading.{Reading}
use Rattle.running.specs.Reading.{Accepted, Refused}
use Rattle.running.specs.Second.{reading}
use Rattle.running.proofs.Bools.{first, second}
use Rattle.running.specs.Atoms.{Atom, Step, Row, Table, is_run}
use Rattle.running.specs.Bound.{Bound, blank}
use Rattle.running.proofs.BoundLaws.{has_blank}
use Rattle.running.specs.ModelReading.{ready, bound_first, bound_by, picked_by}
use Rattle.running.specs.Refusing.{runnable, all_runnable, fits, ops_by, all_fit}
use Rattle.running.specs.Matching.{InShapes}
use Rattle.running.specs.Scheduling.{State, Chosen, Fair, atom_of, numbers, schedule}
use Rattle.running.proofs.Scheduled.{number_mem}
use Rattle.running.proofs.Accepted.{plan_fits}
use Rattle.running.proofs.Guarantee.{made, known_below, schedule_bound_first, schedule_runnable}
use Rattle.running.specs.Items.{Each}
use Rattle.fitting.specs.QueryPlans.{atoms_of}
use Rattle.running.specs.Tables.{table_of}
use Rattle.running.specs.Validation.{Verdict, Passed, Invalid, and_then, of_reading, of_fault, row_fault, with_row, shapes_from, globals_of, all_given, steps_from, steps_pass, validation}
use Rattle.fair_plans.specs.Terms.{FairPlan, fair_steps, atom_globals, GlobalsGiven, table_tests}
use Rattle.fair_plans.proofs.PlanBack.{plan_accepted, plan_steps_lem}
use Rattle.fair_plans.proofs.Globals.{StepGiven, plan_given}

-- steps that meet each test pass them line by line
steps_pass_lem : (tb : Table) (ss : List Step) (B R : Bound) (O : List ℕ) (n : ℕ) → all_runnable ss ≡ true → bound_first B R ss ≡ true → all_fit tb O ss ≡ true → Each (StepGiven tb) ss → steps_from tb B R O n ss ≡ Passed
unfolding steps_from all_runnable bound_first all_fit
steps_pass_lem tb [] B R O n r b f g = refl
steps_pass_lem tb (s ∷ ss) B R O n r b f g =
    rw (first (runnable s) _ r, first (ready B R s) _ b, first (fits tb O s) _ f, g.0)
    (steps_pass_lem tb ss (bound_by s B) (picked_by s R) (ops_by s O) (suc n) (second (runnable s) _ r) (second (ready B R s) _ b) (second (fits tb O s) _ f) g.1)

-- steps that run and read nothing unbound are refused for 11 or 5 alone
steps_refused : (tb : Table) (ss : List Step) (B R : Bound) (O : List ℕ) (n k y l : ℕ) → all_runnable ss ≡ true → bound_first B R ss ≡ true → steps_from tb B R O n ss ≡ Invalid k y l → (k ≡ 11) ⊎ (k ≡ 5)
unfolding steps_from all_runnable bound_first
steps_refused tb [] B R O n k y l r b h = let z : ◌≡◌ {A = ℕ} 0 1 = cc in absurd (omega arith)
steps_refused tb (s ∷ ss) B R O n k y l r b h =
    by (fits tb O s) (all_given tb (globals_of s)) (rw (first (runnable s) _ r, first (ready B R s) _ b) at h)
    (steps_refused tb ss (bound_by s B) (picked_by s R) (ops_by s O) (suc n) k y l (second (runnable s) _ r) (second (ready B R s) _ b))
  where
    by : {v : Verdict} (f g : Bool) → of_fault plan (pick f (pick g 0 5) 11) n v ≡ Invalid k y l → (v ≡ Invalid k y l → (k ≡ 11) ⊎ (k ≡ 5)) → (k ≡ 11) ⊎ (k ≡ 5)
    by true true h more = more h
    by true false h more = inr (cc)
    by false g h more = inl (cc)

-- the test of the table's shapes tells of the table
shapes_refused : (rs : List Row) (n : ℕ) (fs : List (List ℕ)) (k y l : ℕ) → shapes_from rs n fs ≡ Invalid k y l → y ≡ table
unfolding shapes_from
shapes_refused rs n [] k y l h = let z : ◌≡◌ {A = ℕ} 0 1 = cc in absurd (omega arith)
shapes_refused rs n (f ∷ fs) k y l h = by (row_fault rs f) h (shapes_refused (with_row rs f) (suc n) fs k y l)
  where
    by : {v : Verdict} (m : ℕ) → of_fault table m n v ≡ Invalid k y l → (v ≡ Invalid k y l → y ≡ table) → y ≡ table
    by zero h more = more h
    by (suc m) h more = cc

-- the plan of atoms that run, by any fair choice
module _ (tb : Table) (qs : List Atom) {X : Type 0} (choose : X → State → Chosen X) (x : X) (fair : Fair (atom_of qs) (numbers qs) choose) where
  known : (k : ℕ) → Memᴰ k (made qs choose x fair).order → Memᴰ (atom_of qs k) qs
  known k m = number_mem qs k ((made qs choose x fair).known k m)

  schedule_passes : ((a : Atom) → Memᴰ a qs → is_run a ≡ true) → InShapes tb qs → ((a : Atom) → Memᴰ a qs → all_given tb (atom_globals a) ≡ true) → steps_pass tb (schedule qs choose x).steps ≡ Passed
  schedule_passes run sh given = steps_pass_lem tb (schedule qs choose x).steps blank blank (replicate variables_most 0) 1
      (schedule_runnable qs choose x fair run)
      (schedule_bound_first qs choose x fair blank blank has_blank)
      (plan_fits tb (made qs choose x fair).lowered (λ k m. sh k (known_below qs choose x fair k m)) (replicate variables_most 0))
      (plan_given tb (made qs choose x fair).lowered (λ k m. run (atom_of qs k) (known k m)) (λ k m. given (atom_of qs k) (known k m)))

module _ (x p t : List ℕ) (n c : ℕ) (ok : reading Query x ≡ Accepted n c) (f : FairPlan x p) where
  plan_passes : ((a : Atom) → Memᴰ a (atoms_of x) → is_run a ≡ true) → InShapes (table_of t) (atoms_of x) → GlobalsGiven x t → steps_pass (table_of t) (fair_steps f) ≡ Passed
  plan_passes = schedule_passes (table_of t) (atoms_of x) f.choose f.start f.fair

  pub only_the_table : ((a : Atom) → Memᴰ a (atoms_of x) → is_run a ≡ true) → InShapes (table_of t) (atoms_of x) → GlobalsGiven x t → validation p t ≡ table_tests t
  unfolding validation
  only_the_table run sh given = rw (plan_accepted x n c ok p f, plan_steps_lem x n c ok p f, plan_passes run sh given) (last (of_reading table (reading TableText t)) (shapes_from [] 0 (frames_of t)))
    where
      last : (v w : Verdict) → and_then v (and_then w Passed) ≡ and_then v w
      last Passed Passed = refl
      last Passed (Invalid k y l) = refl
      last (Invalid k y l) w = refl

  -- over any table: the plan's lines are refused for 11 or the missing global alone
  pub plan_refusal : ((a : Atom) → Memᴰ a (atoms_of x) → is_run a ≡ true) → (k l : ℕ) → validation p t ≡ Invalid k plan l → (k ≡ 11) ⊎ (k ≡ 5)
  unfolding validation
  plan_refusal run k l h = by (reading TableText t) (shapes_from [] 0 (frames_of t)) (shapes_refused [] 0 (frames_of t) k plan l) (rw (plan_accepted x n c ok p f, plan_steps_lem x n c ok p f) at h)
    where
      by : (a : Reading) (v : Verdict) → (v ≡ Invalid k plan l → plan ≡ table) → and_then (of_reading table a) (and_then v (steps_pass (table_of t) (fair_steps f))) ≡ Invalid k plan l → (k ≡ 11) ⊎ (k ≡ 5)
      by (Refused m j) v u h = let z : table ≡ plan = cc in absurd (omega arith)
      by (Accepted m j) (Invalid i y j') u h = absurd (omega (arith, u h))
      by (Accepted m j) Passed u h = steps_refused (table_of t) (fair_steps f) blank blank (replicate variables_most 0) 1 k plan l
          (schedule_runnable (atoms_of x) f.choose f.start f.fair run)
          (schedule_bound_first (atoms_of x) f.choose f.start f.fair blank blank has_blank)
          h

-- where the steps pass, the globals that they name have classes
pub steps_given : (tb : Table) (ss : List Step) (B R : Bound) (O : List ℕ) (n : ℕ) → steps_from tb B R O n ss ≡ Passed → Each (StepGiven tb) ss
unfolding steps_from
steps_given tb [] B R O n h = tt
steps_given tb (s ∷ ss) B R O n h = by (runnable s) (ready B R s) (fits tb O s) (all_given tb (globals_of s)) refl h (steps_given tb ss (bound_by s B) (picked_by s R) (ops_by s O) (suc n))
  where
    by : {v : Verdict} (r b f g : Bool) → all_given tb (globals_of s) ≡ g → of_fault plan (pick r (pick b (pick f (pick g 0 5) 11) 9) 10) n v ≡ Passed → (v ≡ Passed → Each (StepGiven tb) ss) → Each (StepGiven tb) (s ∷ ss)
    by true true true true e h k = (e, k h)
    by true true true false e h k = let z : ◌≡◌ {A = ℕ} 0 1 = cc in absurd (omega arith)
    by true true false g e h k = let z : ◌≡◌ {A = ℕ} 0 1 = cc in absurd (omega arith)
    by true false f g e h k = let z : ◌≡◌ {A = ℕ} 0 1 = cc in absurd (omega arith)
    by false b f g e h k = let z : ◌≡◌ {A = ℕ} 0 1 = cc in absurd (omega arith)
