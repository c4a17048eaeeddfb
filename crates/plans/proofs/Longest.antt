-- How long a plan can be: 17 steps and 321 bytes for each atom, so 1,088 steps and 20,565 bytes for the most atoms. Proved by cases on the
-- atom and by induction over what the scheduler reaches, for a measure of steps that adds up.
use Prim.Native.Nat.{ℕ, suc, ◌+◌, ◌*◌, ◌≤◌}
use mathlib.Core.Path.{◌≡◌, refl, ap}
use mathlib.Core.Bool.{Bool, true, false}
use mathlib.Core.Option.{some}
use mathlib.Core.List.{List, [], ◌∷◌, ◌++◌, map, Memᴰ}
use native.Mathlib.Omega.{arith}
use native.Mathlib.Nat.{mul-le-mul_left, mul-suc}
use lib.ListN.{length, drop}
use Rattle.records.specs.Choose.{pick}
use Rattle.records.specs.First.{frames_of}
use Rattle.records.specs.Counts.{Counts}
use Rattle.records.specs.Text.TheVariants.{Plan}
use Rattle.records.specs.FirstReadingReading.{Accepted}
use Rattle.records.specs.Second.{reading}
use Rattle.records.proofs.TabulateLaws.{tabulate_length}
use Rattle.records.specs.Atoms.{Operand, local, global, wild, Atom, Plain, Lit, LitBind, Eq, EqGlobal, Pred, Variadic, Lookup, Expansion, ExpandA, DecomposeAC, DecomposeACI, Step, Join, Expand}
use Rattle.records.specs.Bound.{Bound, has, add}
use Rattle.records.specs.Lowering.{pv_is_bound, pv_mark_bound, read_child, emit_read_children, child_lookups, contains_lookups, join_lookups, Emitted, expansion_of, lower}
use Rattle.records.specs.Scheduling.{State, unplanned, Chosen, Fair, unlowered, atom_of, numbers, schedule}
use Rattle.records.proofs.Scheduled.{Reached, fresh, takes, unlowered_lt, number_mem, reached}
use Rattle.records.proofs.Lengths.{flat_length}
use Rattle.records.specs.Items.{Each}
use Rattle.plans.specs.StepFrames.{operand_bytes, lookup_bytes, elements_of, element_bytes, frame_of, step_of, AtomFits}
use Rattle.plans.specs.PlanText.{text_length, plan_text, plan_counts, plan_most, QueryFits}
use Rattle.plans.proofs.StepsRead.{lookup_wide}
use Rattle.plans.proofs.StepsPass.{elements_length}
use Rattle.plans.proofs.PlanRead.{PlanFits, plan_length, plan_accepted, plan_steps_lem}
use Rattle.plans.proofs.Fitting.{each_mem, children_few, contains_few, emitted_have, eq_have, global_has, schedule_fit}

-- ---- a measure that adds up over the steps

unfoldable pub total : (Step → ℕ) → List Step → ℕ
total size [] = 0
total size (s ∷ ss) = size s + total size ss

-- one for each step; the bytes of its line
abbrev pub one_each : Step → ℕ
one_each s = 1

abbrev pub line_length : Step → ℕ
line_length s = 2 * length (frame_of s) + 1

total_append : (size : Step → ℕ) (ss ts : List Step) → total size (ss ++ ts) ≡ total size ss + total size ts
unfolding total
total_append size [] ts = omega arith
total_append size (s ∷ ss) ts = let h = total_append size ss ts in omega arith

pub total_steps : (ss : List Step) → total one_each ss ≡ length ss
unfolding total
total_steps [] = refl
total_steps (s ∷ ss) = let h = total_steps ss in omega arith

pub total_lines : (ss : List Step) → total line_length ss ≡ text_length (map frame_of ss)
unfolding total text_length
total_lines [] = refl
total_lines (s ∷ ss) = let h = total_lines ss in omega arith

-- ---- over what the scheduler reaches: each atom is lowered once
unlowered_most : (U : Bound) (js : List ℕ) → unlowered U js ≤ length js
unfolding unlowered
unlowered_most U [] = omega arith
unlowered_most U (i ∷ js) = at (has U i) (unlowered_most U js)
  where
    at : (b : Bool) → unlowered U js ≤ length js → pick b (unlowered U js) (suc (unlowered U js)) ≤ suc (length js)
    at true h = omega arith
    at false h = omega arith

module _ (size : Step → ℕ) (c : ℕ) (atomAt : ℕ → Atom) (js : List ℕ) (most : (i : ℕ) → Memᴰ i js → (B : Bound) (l : Emitted) → lower B i (atomAt i) ≡ some l → total size l.steps ≤ c) where
  reached_total : (st : State) → Reached atomAt js st → total size st.steps + c * unlowered st.used js ≤ c * unlowered unplanned.used js
  unfolding total
  reached_total st fresh = omega arith
  reached_total st (takes {st = s} i l r m u d e) =
      let h = reached_total s r in
      let k = most i m s.bound l e in
      let p = mul-le-mul_left c (unlowered_lt s.used i js u m) in
      omega (arith, total_append size s.steps l.steps, mul-suc c (unlowered (add s.used i) js))

-- ---- the lines of a step
join_line : (v k : ℕ) (ls : List Lookup) → line_length (Join v k ls) ≡ 9 + 8 * length ls
unfolding frame_of
join_line v k ls = omega (arith, flat_length lookup_bytes 4 lookup_wide ls)

expand_line : (v : ℕ) (cs : List Operand) (x : Expansion) → line_length (Expand v cs x) ≤ 13 + 6 * length cs
unfolding frame_of
expand_line v cs (ExpandA p s) = omega (arith, flat_length operand_bytes 2 (λ c. refl) cs)
expand_line v cs (DecomposeAC i ms r) = omega (arith, flat_length element_bytes 3 (λ e. refl) (elements_of cs ms), elements_length cs ms)
expand_line v cs (DecomposeACI r) = omega (arith, flat_length operand_bytes 2 (λ c. refl) cs)

read_line : (b : Bool) (v i : ℕ) (c : Operand) → total line_length (read_child v i b c) ≤ 11
unfolding total frame_of
read_line true v i (local w) = omega arith
read_line false v i (local w) = omega arith
read_line b v i (global g) = omega arith
read_line b v i wild = omega arith

read_step : (b : Bool) (v i : ℕ) (c : Operand) → total one_each (read_child v i b c) ≤ 1
unfolding total
read_step true v i (local w) = omega arith
read_step false v i (local w) = omega arith
read_step b v i (global g) = omega arith
read_step b v i wild = omega arith

reads_lines : (v i : ℕ) (B : Bound) (cs : List Operand) → total line_length (emit_read_children v i B cs) ≤ 11 * length cs
unfolding total emit_read_children
reads_lines v i B [] = omega arith
reads_lines v i B (c ∷ cs) = let h = reads_lines v (suc i) (pv_mark_bound B c) cs in omega (arith, read_line (pv_is_bound B c) v i c, total_append line_length (read_child v i (pv_is_bound B c) c) (emit_read_children v (suc i) (pv_mark_bound B c) cs))

reads_steps : (v i : ℕ) (B : Bound) (cs : List Operand) → total one_each (emit_read_children v i B cs) ≤ length cs
unfolding total emit_read_children
reads_steps v i B [] = omega arith
reads_steps v i B (c ∷ cs) = let h = reads_steps v (suc i) (pv_mark_bound B c) cs in omega (arith, read_step (pv_is_bound B c) v i c, total_append one_each (read_child v i (pv_is_bound B c) c) (emit_read_children v (suc i) (pv_mark_bound B c) cs))

-- ---- an atom's steps: one; a Join and one more; or a Join and a line for each child
data Shape : List Step → Type 0 where
  alone : {s : Step} → line_length s ≤ 176 → Shape (s ∷ [])
  joined : {v k : ℕ} {ls : List Lookup} {s : Step} → length ls ≤ 17 → line_length s ≤ 176 → Shape (Join v k ls ∷ s ∷ [])
  read : {v k : ℕ} {ls : List Lookup} (B : Bound) (cs : List Operand) → length ls ≤ 17 → length cs ≤ 16 → Shape (Join v k ls ∷ emit_read_children v 0 B cs)

shape_bytes : {ss : List Step} → Shape ss → total line_length ss ≤ 321
unfolding total
shape_bytes (alone h) = omega arith
shape_bytes (joined {v} {k} {ls} h q) = omega (arith, join_line v k ls)
shape_bytes (read {v} {k} {ls} B cs h q) = omega (arith, join_line v k ls, reads_lines v 0 B cs)

shape_steps : {ss : List Step} → Shape ss → total one_each ss ≤ 17
unfolding total
shape_steps (alone h) = omega arith
shape_steps (joined h q) = omega arith
shape_steps (read {v} B cs h q) = omega (arith, reads_steps v 0 B cs)

join_few : (b : Bool) (v o : ℕ) (ls : List Lookup) → length ls ≤ 16 → length (join_lookups b v o ls) ≤ 17
join_few true v o ls h = omega arith
join_few false v o ls h = omega arith

atom_shape : (n : Counts) (B : Bound) (k : ℕ) (a : Atom) (l : Emitted) → AtomFits n a → lower B k a ≡ some l → Shape l.steps
unfolding lower frame_of
atom_shape n B k (Plain v o cs) l h e = emitted_have Shape _ l e (read (add B v) cs (join_few (has B v) v o (child_lookups B 0 cs) (omega (arith, children_few B 0 cs, h.2.0))) h.2.0)
atom_shape n B k (Lit v o x) l h e = emitted_have Shape _ l e (joined (join_few (has B v) v o [] (omega arith)) (omega arith))
atom_shape n B k (LitBind v o x) l h e = emitted_have Shape _ l e (joined (join_few (has B v) v o [] (omega arith)) (omega arith))
atom_shape n B k (Eq a b) l h e = eq_have Shape (has B a) (has B b) B a b l (alone (omega arith)) (alone (omega arith)) (alone (omega arith)) e
atom_shape n B k (EqGlobal a g) l h e = global_has Shape (has B a) B a g l (alone (omega arith)) (alone (omega arith)) e
atom_shape n B k (Pred g ds) l h e = emitted_have Shape _ l e (alone (omega arith))
atom_shape n B k (Variadic v o cs f) l h e = emitted_have Shape _ l e (joined (join_few (has B v) v o (contains_lookups B cs) (omega (arith, contains_few B cs, h.2.0))) (omega (arith, expand_line v cs (expansion_of f), h.2.0)))

pub atom_bytes : (n : Counts) (B : Bound) (k : ℕ) (a : Atom) (l : Emitted) → AtomFits n a → lower B k a ≡ some l → total line_length l.steps ≤ 321
atom_bytes n B k a l h e = shape_bytes (atom_shape n B k a l h e)

pub atom_steps : (n : Counts) (B : Bound) (k : ℕ) (a : Atom) (l : Emitted) → AtomFits n a → lower B k a ≡ some l → total one_each l.steps ≤ 17
atom_steps n B k a l h e = shape_steps (atom_shape n B k a l h e)

-- ---- the plan of a query, whatever the costs
module _ (n : Counts) (qs : List Atom) {X : Type 0} (choose : X → State → Chosen X) (x : X) (fair : Fair (atom_of qs) (numbers qs) choose) (fit : Each (AtomFits n) qs) where
  schedule_total : (size : Step → ℕ) (c : ℕ) → ((B : Bound) (k : ℕ) (a : Atom) (l : Emitted) → AtomFits n a → lower B k a ≡ some l → total size l.steps ≤ c) → total size (schedule qs choose x).steps ≤ c * length qs
  schedule_total size c most =
      let h = reached_total size c (atom_of qs) (numbers qs) (λ i m B l. most B i (atom_of qs i) l (each_mem (AtomFits n) qs fit (atom_of qs i) (number_mem qs i m))) (schedule qs choose x) (reached qs choose x fair) in
      let k = mul-le-mul_left c (unlowered_most unplanned.used (numbers qs)) in
      omega (arith, ap (λ (m : ℕ). c * m) (tabulate_length (length qs) (λ i. i)))

  pub schedule_steps : length (schedule qs choose x).steps ≤ 17 * length qs
  schedule_steps = omega (arith, schedule_total one_each 17 (atom_steps n), total_steps (schedule qs choose x).steps)

  pub schedule_bytes : (v g l t r : ℕ) → length (plan_text v g l t r (schedule qs choose x).steps) ≤ 21 + 321 * length qs
  schedule_bytes v g l t r = omega (arith, schedule_total line_length 321 (atom_bytes n), total_lines (schedule qs choose x).steps, plan_length v g l t r (schedule qs choose x).steps)

module _ (v g l t r : ℕ) (qs : List Atom) (fit : QueryFits v g l t r qs) {X : Type 0} (choose : X → State → Chosen X) (x : X) (fair : Fair (atom_of qs) (numbers qs) choose) where
  -- at most 1,088 steps
  pub few_steps : length (schedule qs choose x).steps ≤ 1088
  few_steps = omega (arith, schedule_steps (plan_counts v g l) qs choose x fair fit.atoms, fit.atoms_few)

  pub few_bytes : length (plan_text v g l t r (schedule qs choose x).steps) ≤ plan_most
  few_bytes = omega (arith, schedule_bytes (plan_counts v g l) qs choose x fair fit.atoms v g l t r, fit.atoms_few)

  -- so the plan is within the limits of plans, and is read back
  pub schedule_plan : PlanFits v g l t r (schedule qs choose x).steps
  schedule_plan = record {
    variables_few = fit.variables_few;
    globals_few = fit.globals_few;
    literals_few = fit.literals_few;
    tallied_few = fit.tallied_few;
    rejected_few = fit.rejected_few;
    steps = schedule_fit (plan_counts v g l) qs choose x fair fit.atoms_few fit.atoms;
    short = omega (arith, few_bytes);
  }

  pub schedule_accepted : reading Plan (plan_text v g l t r (schedule qs choose x).steps) ≡ Accepted (1 + length (schedule qs choose x).steps) 0
  schedule_accepted = plan_accepted v g l t r (schedule qs choose x).steps schedule_plan

  pub schedule_read : map step_of (drop 1 (frames_of (plan_text v g l t r (schedule qs choose x).steps))) ≡ (schedule qs choose x).steps
  schedule_read = plan_steps_lem v g l t r (schedule qs choose x).steps schedule_plan
