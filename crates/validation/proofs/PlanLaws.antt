-- The plan's steps in turn. Proved from the walk over a sheet's frames, and from what the reading says of each.
use Prim.Native.Nat.{ℕ, zero, suc, ◌+◌, ◌-◌, ◌<◌, ◌≤◌}
use mathlib.Core.Path.{◌≡◌, refl, sym, ◌∙◌, ap}
use mathlib.Core.Bool.{Bool, true, false}
use mathlib.Core.List.{List, [], ◌∷◌, map}
use native.Mathlib.Omega.{arith}
use native.Mathlib.Numerals.{add-one}
use lib.Dec.{ltb}
use lib.ListN.{length, get_or, take, drop, replicate}
use borrow.Author.Tests.{ltb-true}
use Rattle.hexadecimal.specs.Choose.{pick}
use Rattle.hexadecimal.proofs.ChooseLaws.{both_hold}
use Rattle.fields.specs.Limits.{variables_most}
use Rattle.frames.specs.Kinds.{kinds, kind_at, plan}
use Rattle.fields.specs.Fields.{field_passes, field_in}
use Rattle.frames.specs.Frames.{pass_all, frame_passes}
use Rattle.frames.specs.Sheet.{frame_at, frames_in}
use Rattle.frames.proofs.SheetLaws.{frames_end, frame_within, frames_step, first_taken}
use Rattle.join_tests.specs.First.{frames_of}
use Rattle.fields.specs.declared.field.Counts.{Counts}
use Rattle.fields.specs.declared.field.Test.TheVariants.{Range}
use Rattle.join_tests.specs.Text.TheVariants.{Plan}
use Rattle.join_tests.specs.Second.{counts_of}
use Rattle.step_tests.proofs.Whole.{Whole, accepted, Headed, headed}
use Rattle.join_tests.specs.Atoms.{Table}
use Rattle.join_tests.specs.Bound.{Bound, blank}
use Rattle.join_tests.specs.Reading.{bound_by, picked_by, ready}
use Rattle.join_tests.specs.Refusing.{runnable, fits, ops_by}
use Rattle.step_tests.specs.StepFrames.{step_of}
use Rattle.table_tests.specs.Tables.{steps_in}
use Rattle.step_tests.specs.Validation.{of_fault, globals_of, all_given, step_fault, steps_from, steps_pass}
use Rattle.join_tests.specs.Arrays.{bound_in, picked_in, ops_in}
use Rattle.join_tests.specs.declared.joins.Tested.{Tested}
use Rattle.step_tests.specs.Steps.{Described}
use Rattle.validation.specs.Steps.{StepTested}
use Rattle.validation.specs.Marks.{Targeted, Markable, Stepped}
use Rattle.std.specs.Prelude.{Ok, Err}
use Rattle.table_tests.specs.Text.TheVariants.{Plan as PlanText}
use Rattle.validation.specs.Plans.{PlanSheet, PlanReady, StepsTested}
use Rattle.table_tests.proofs.ShapeLaws.{frames_few, fault_stops}

-- ---- a target is below 64

-- kinds 40 to 46
by_kind : (P : ℕ → Type 0) → P 0x40 → P 0x41 → P 0x42 → P 0x43 → P 0x44 → P 0x45 → P 0x46 → (k : ℕ) → 0x40 ≤ k → k ≤ 0x46 → P k
by_kind P a b c d e f g k l h = let q : 0x40 + (k - 0x40) ≡ k = omega arith in rw q at (at (k - 0x40) (omega arith))
  where
    at : (j : ℕ) → j ≤ 6 → P (0x40 + j)
    at zero h = a
    at (suc zero) h = b
    at (suc (suc zero)) h = c
    at (suc (suc (suc zero))) h = d
    at (suc (suc (suc (suc zero)))) h = e
    at (suc (suc (suc (suc (suc zero))))) h = f
    at (suc (suc (suc (suc (suc (suc zero)))))) h = g
    at (suc (suc (suc (suc (suc (suc (suc j))))))) h = absurd (omega arith)

first_field : (t r s : Bool) → pick (pick t r false) s false ≡ true → t ≡ true
first_field t r s h = (both_hold t r (both_hold (pick t r false) s h).0).0

module _ (n : Counts) where
  variable_first : (k : ℕ) → 0x40 ≤ k → k ≤ 0x46 → (f : List ℕ) → get_or f 0 0 ≡ k → frame_passes (field_passes Range n) f ≡ true → ltb (get_or f 1 0) n.variables ≡ true
  unfolding kinds kind_at pass_all field_passes field_in
  variable_first = by_kind (λ k. (f : List ℕ) → get_or f 0 0 ≡ k → frame_passes (field_passes Range n) f ≡ true → ltb (get_or f 1 0) n.variables ≡ true)
      (λ f e q. first_field (ltb (get_or f 1 0) n.variables) _ _ (rw e at q))
      (λ f e q. first_field (ltb (get_or f 1 0) n.variables) _ _ (rw e at q))
      (λ f e q. first_field (ltb (get_or f 1 0) n.variables) _ _ (rw e at q))
      (λ f e q. first_field (ltb (get_or f 1 0) n.variables) _ _ (rw e at q))
      (λ f e q. first_field (ltb (get_or f 1 0) n.variables) _ _ (rw e at q))
      (λ f e q. first_field (ltb (get_or f 1 0) n.variables) _ _ (rw e at q))
      (λ f e q. first_field (ltb (get_or f 1 0) n.variables) _ _ (rw e at q))

  targeted : n.variables ≤ variables_most → (f : List ℕ) → frame_passes (field_passes Range n) f ≡ true → Targeted f
  targeted h f q = record { below = λ l m. let b = ltb-true (get_or f 1 0) n.variables (variable_first (get_or f 0 0) l m f refl q) in omega arith }

-- ---- the frames in turn

-- n frames stand before those that are left, whose steps say the rest
pub record Walking (x F G M : List ℕ) (fs : List (List ℕ)) (n : ℕ) : Type 0 where
  pub few : n + length fs ≤ length x
  pub size : length M ≡ variables_most
  pub each : (i : ℕ) → i < length fs → Targeted (get_or fs i [])
  pub is : (tb : Table) → Described tb F G → steps_pass tb (steps_in (frames_in x)) ≡ steps_from tb (bound_in M) (picked_in M) (ops_in M) n (map step_of fs)

module _ (x : List ℕ) (s : PlanSheet x) (l : List ℕ) (q : l ≡ frame_at x 0) where
  pub whole : Whole Plan s.p s.lines s.counted
  whole = accepted Plan s.p s.lines s.counted s.accepted

  pub head : Headed Plan s.p s.lines s.counted
  head = headed Plan s.p s.lines s.counted (λ z. let y : ◌≡◌ {A = ℕ} 0 1 = cc in omega arith) s.accepted

  pub lines : s.lines ≡ length (frames_in x)
  lines = rw s.sheet.frames whole.lines

  -- an accepted plan has a frame
  pub some : 0 < length x
  some = by (length x) refl
    where
      by : (n : ℕ) → length x ≡ n → 0 < n
      by zero e = absurd (omega (arith, head.some, lines, ap length (frames_end x 0 (omega arith))))
      by (suc n) e = omega arith

  from_0 : 0 + length l ≡ length l
  from_0 = omega arith

  pub behind : frames_in x ≡ l ∷ frames_in (drop (length l) x)
  behind = rw from_0 at (frames_step x 0 some l q)

  pub header_within : length l ≤ length x
  header_within = rw from_0 at (frame_within x 0 some l q)

  module _ (r : List ℕ) (rest : r ≡ take (length x - length l) (drop (length l) x)) where
    pub header_taken : frames_in x ≡ l ∷ frames_in r
    header_taken = rw rest (first_taken x l some q)

    pub walking_none : (F G : List ℕ) → Walking x F G (replicate 64 0) (frames_in r) 1
    unfolding steps_in blank bound_in picked_in ops_in
    walking_none F G = record {
      few = omega (arith, frames_few x, ap length header_taken);
      size = refl;
      each = λ i h.
          let m : suc i < s.lines = omega (arith, lines, ap length header_taken) in
          let t : Targeted (get_or (frames_in x) (suc i) []) = rw s.sheet.frames (targeted (counts_of Plan s.p s.counted) head.header.variables (get_or (frames_of s.p) (suc i) []) (whole.named (suc i) m).range) in
          rw header_taken at t;
      is = λ tb d. rw header_taken;
    }

pub walking_start : (x F G l r : List ℕ) → PlanReady x F G → l ≡ frame_at x 0 → r ≡ take (length x - length l) (drop (length l) x) → Walking x F G (replicate 64 0) (frames_in r) 1
walking_start x F G l r p q rest = walking_none x p.plan l q r rest F G

pub runs : (tb : Table) (B R : Bound) (O f : List ℕ) → 0 ≡ step_fault tb B R O (step_of f) → runnable (step_of f) ≡ true
runs tb B R O f h = by (runnable (step_of f)) h
  where
    by : (t : Bool) → ◌≡◌ {A = ℕ} 0 (pick t (pick (ready B R (step_of f)) (pick (fits tb O (step_of f)) (pick (all_given tb (globals_of (step_of f))) 0 5) 11) 9) 10) → t ≡ true
    by true h = refl
    by false h = absurd (omega arith)

module _ (x F G M : List ℕ) (fs : List (List ℕ)) (n : ℕ) (s : Walking x F G M fs n) where
  pub steps_end : fs ≡ [] → StepsTested x F G (Ok tt)
  unfolding steps_from
  steps_end e = record { is = λ tb d. sym (s.is tb d ∙ rw e) }

  module _ (frame : List ℕ) (gs : List (List ℕ)) (next : fs ≡ frame ∷ gs) where
    pub steps_few : n + 1 ≤ length x
    steps_few = omega (arith, s.few, ap length next)

    module _ (t : Tested) (w : StepTested F G M frame t) where
      says : (tb : Table) → Described tb F G → steps_pass tb (steps_in (frames_in x)) ≡ of_fault plan t.fault n (steps_from tb (bound_by (step_of frame) (bound_in M)) (picked_by (step_of frame) (picked_in M)) (ops_by (step_of frame) (ops_in M)) (suc n) (map step_of gs))
      unfolding steps_from
      says tb d = s.is tb d ∙ rw (next, ← w.is tb d)

      pub steps_refused : (t.fault ≡ 0 → ⊥) → StepsTested x F G (Err (record { number = t.fault; text = PlanText; line = n + 1 }))
      steps_refused z = record { is = λ tb d. sym (says tb d ∙ fault_stops plan t.fault n _ z ∙ rw (add-one n)) }

      module _ (z : t.fault ≡ 0) where
        pub step_markable : PlanReady x F G → Markable frame t.op M
        step_markable r = record {
          runs = runs r.table (bound_in M) (picked_in M) (ops_in M) frame (sym z ∙ w.is r.table r.described);
          op = w.op;
          target = rw next at (s.each 0 (omega (arith, ap length next)));
          size = s.size;
        }

        pub walking_again : (N : List ℕ) → Stepped frame M N → Walking x F G N gs (n + 1)
        walking_again N m = record {
          few = omega (arith, s.few, ap length next);
          size = m.size;
          each = λ i j. rw next at (s.each (suc i) (omega (arith, ap length next)));
          is = λ tb d. says tb d ∙ rw (z, add-one n, m.bound, m.picked, m.ops);
        }
