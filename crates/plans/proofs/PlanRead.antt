-- The text of a plan whose steps fit is accepted by the reading of plans, and its frames give the steps back: `plan_accepted`, `plan_steps_lem`.
-- Proved by induction over the steps, each passing both readings.
use Prim.Native.Nat.{ℕ, suc, ◌+◌, ◌/◌, ◌%◌, ◌<◌, ◌≤◌}
use mathlib.Core.Path.{◌≡◌, refl, sym, ◌∙◌}
use mathlib.Core.Bool.{Bool, true, false, true≢false}
use mathlib.Core.List.{List, [], ◌∷◌, ◌++◌, map}
use native.Mathlib.Omega.{arith}
use native.Mathlib.Nat.{add-zero}
use lib.ListN.{length, get_or, drop, length-map}
use lib.Dec.{eqb}
use lib.Pow.{are_bytes}
use borrow.Author.Tests.{lt-ltb, le-ltb, le-leb, eq-eqb, ne_eqb, eqb-true}
use Rattle.records.specs.Digits.{bytes_of, digits_of}
use Rattle.records.specs.Limits.{text_most, variables_most, globals_most, literals_most}
use Rattle.records.specs.Fields.{field_passes, field_fits, field_in, field_real, no_counts}
use Rattle.records.specs.Kinds.{kinds, kind_at}
use Rattle.records.specs.Frames.{frame_length, pass_all}
use Rattle.records.specs.Faults.{belongs, frame_fault}
use Rattle.records.specs.First.{frames_of, line_fault, first_lines, first_from, first_line, steps_say, steps_right, first_reading}
use Rattle.records.specs.Counts.{Counts}
use Rattle.records.specs.Text.TheVariants.{Plan}
use Rattle.records.specs.FirstReadingReading.{Reading}
use Rattle.records.specs.FirstReadingReading.{Accepted}
use Rattle.records.specs.Keys.{key_given}
use Rattle.records.specs.FromTable.{takes_table}
use Rattle.records.specs.Leading.{leads}
use Rattle.records.specs.Second.{counts_of, second_fault, second_from, reading}
use Rattle.records.specs.Atoms.{Step}
use Rattle.records.specs.Items.{Each}
use Rattle.plans.specs.StepFrames.{frame_of, header_of, step_of, CountsFit, StepFits}
use Rattle.plans.specs.PlanText.{text_length, plan_frames, plan_text, plan_counts}
use Rattle.plans.proofs.StepsRead.{read_back}
use Rattle.plans.proofs.StepsPass.{step_belongs, step_length, step_limits, step_range, step_reals, step_keyless, step_bytes}
use Rattle.plans.proofs.Texts.{digits_hex, text_split, line_read, text_frames, text_first, text_length_lem, text_least}

-- a plan within the limits
pub record PlanFits (variables globals literals tallied rejected : ℕ) (ss : List Step) : Type 0 where
  pub variables_few : variables ≤ variables_most
  pub globals_few : globals ≤ globals_most
  pub literals_few : literals ≤ literals_most
  pub tallied_few : tallied < 65536
  pub rejected_few : rejected < 65536
  pub steps : Each (StepFits (plan_counts variables globals literals)) ss
  pub short : length (plan_text variables globals literals tallied rejected ss) ≤ text_most

-- ---- a step's line passes both readings

step_fault_lem : (n : Counts) (s : Step) → StepFits n s → (c : ℕ) → frame_fault Plan false c (frame_of s) ≡ 0
unfolding frame_fault
step_fault_lem n s h c = rw (step_belongs s, eq-eqb (length (frame_of s)) (frame_length (frame_of s)) (step_length s), step_limits n no_counts s h)

step_line : (n : Counts) → CountsFit n → (s : Step) → StepFits n s → (c : ℕ) → line_fault Plan false c (digits_of (frame_of s)) ≡ 0
unfolding line_fault
step_line n fit s h c = rw (digits_hex (frame_of s) (omega (arith, step_length s)) (step_bytes n fit s h), line_read (frame_of s) (step_bytes n fit s h)) (step_fault_lem n s h c)

-- a step's kind is none of another text's
step_other : (b : ℕ) → belongs Plan false b ≡ false → (s : Step) → eqb (get_or (frame_of s) 0 0) b ≡ false
step_other b o s = go (eqb (get_or (frame_of s) 0 0) b) refl
  where
    go : (t : Bool) → eqb (get_or (frame_of s) 0 0) b ≡ t → t ≡ false
    go true p = let e : get_or (frame_of s) 0 0 ≡ b = eqb-true _ _ p in absurd (true≢false (sym (rw e at (step_belongs s)) ∙ o))
    go false p = refl

step_takes : (s : Step) → takes_table (frame_of s) ≡ false
unfolding kind_at kinds
step_takes s = step_other 0x24 refl s

step_leads : (s : Step) → leads (frame_of s) ≡ false
unfolding kind_at kinds
step_leads s = step_other 0x34 refl s

step_second : (n : Counts) (s : Step) → StepFits n s → (earlier : List (List ℕ)) → second_fault n earlier (frame_of s) ≡ 0
unfolding second_fault
step_second n s h earlier = rw (step_range n s h, step_reals n s, step_keyless earlier s, step_leads s, step_takes s)

-- ---- so do the steps' lines, k lines being passed

steps_first : (n : Counts) → CountsFit n → (ss : List Step) → Each (StepFits n) ss → (k : ℕ) → first_lines Plan (suc k) 0 (map digits_of (map frame_of ss)) [] ≡ Accepted (suc k + length ss) 0
unfolding first_lines
steps_first n fit [] h k = rw (add-zero (suc k))
steps_first n fit (s ∷ ss) h k =
    let e : suc (suc k) + length ss ≡ suc k + suc (length ss) = omega arith in
    rw (ne_eqb (suc k) 0 (λ e. omega arith), step_line n fit s h.0 0, steps_first n fit ss h.1 (suc k), e)

steps_second : (n : Counts) (ss : List Step) → Each (StepFits n) ss → (earlier : List (List ℕ)) (k : ℕ) (a : Reading) → second_from n earlier k (map frame_of ss) a ≡ a
unfolding second_from
steps_second n [] h earlier k a = refl
steps_second n (s ∷ ss) h earlier k a = rw (step_second n s h.0 earlier) (steps_second n ss h.1 (earlier ++ frame_of s ∷ []) (suc k) a)

steps_bytes : (n : Counts) → CountsFit n → (ss : List Step) → Each (StepFits n) ss → Each (λ f. are_bytes f ≡ true) (map frame_of ss)
steps_bytes n fit [] h = tt
steps_bytes n fit (s ∷ ss) h = (step_bytes n fit s h.0, steps_bytes n fit ss h.1)

steps_back : (n : Counts) (ss : List Step) → Each (StepFits n) ss → map step_of (map frame_of ss) ≡ ss
steps_back n [] h = refl
steps_back n (s ∷ ss) h = rw (read_back n s h.0, steps_back n ss h.1)

-- ---- the header's line

header_second : (v g l k t r : ℕ) (n : Counts) → second_fault n [] (header_of v g l k t r) ≡ 0
unfolding second_fault kind_at kinds pass_all field_passes field_in field_real key_given
header_second v g l k t r n = refl

module _ (v g l k t r : ℕ) (v-few : v ≤ variables_most) (g-few : g ≤ globals_most) (l-few : l ≤ literals_most) where
  header_fault : frame_fault Plan true 0 (header_of v g l k t r) ≡ 0
  unfolding frame_fault kind_at kinds pass_all field_passes field_fits
  header_fault = rw (le-leb v variables_most v-few, le-leb g globals_most g-few, le-leb l literals_most l-few)

  header_bytes : k < 65536 → t < 65536 → r < 65536 → are_bytes (header_of v g l k t r) ≡ true
  header_bytes p q s = rw (
    lt-ltb v 256 (omega arith),
    lt-ltb g 256 (omega arith),
    lt-ltb l 256 (omega arith),
    lt-ltb (k / 0x100) 256 (omega arith),
    lt-ltb (k % 0x100) 256 (omega arith),
    lt-ltb (t / 0x100) 256 (omega arith),
    lt-ltb (t % 0x100) 256 (omega arith),
    lt-ltb (r / 0x100) 256 (omega arith),
    lt-ltb (r % 0x100) 256 (omega arith),
  )

-- ---- the whole

-- a plan's length: the header's line has 21 bytes
pub plan_length : (v g l t r : ℕ) (ss : List Step) → length (plan_text v g l t r ss) ≡ 21 + text_length (map frame_of ss)
unfolding plan_text text_length
plan_length v g l t r ss = text_length_lem (plan_frames v g l t r ss)

short_by : (x : List ℕ) (a : Reading) → length x ≤ text_most → 0 < length x → first_from Plan 0 0 x ≡ a → first_reading Plan x ≡ steps_right Plan x a
unfolding first_reading
short_by x a h k e = rw (le-ltb text_most (length x) h, ne_eqb (length x) 0 (λ z. omega arith), e)

module _ (v g l t r : ℕ) (ss : List Step) (fit : PlanFits v g l t r ss) where
  header : List ℕ
  header = header_of v g l (length ss) t r

  text : List ℕ
  text = plan_text v g l t r ss

  counts_fit : CountsFit (plan_counts v g l)
  counts_fit = record { variables = fit.variables_few; globals = fit.globals_few; literals = fit.literals_few; atoms = omega arith }

  few_steps : length ss < 65536
  few_steps = omega (arith, plan_length v g l t r ss, text_least (map frame_of ss), length-map ss frame_of, fit.short)

  header_are : are_bytes header ≡ true
  unfolding header
  header_are = header_bytes v g l (length ss) t r fit.variables_few fit.globals_few fit.literals_few few_steps fit.tallied_few fit.rejected_few

  -- the frames of the text are the plan's
  pub plan_frames_lem : frames_of (plan_text v g l t r ss) ≡ plan_frames v g l t r ss
  unfolding plan_text header
  plan_frames_lem = text_frames (plan_frames v g l t r ss) (header_are, steps_bytes (plan_counts v g l) counts_fit ss fit.steps)

  -- and those after the header give the steps back
  pub plan_steps_lem : map step_of (drop 1 (frames_of (plan_text v g l t r ss))) ≡ ss
  plan_steps_lem = rw plan_frames_lem (steps_back (plan_counts v g l) ss fit.steps)

  header_line : line_fault Plan true 0 (digits_of header) ≡ 0
  unfolding line_fault header
  header_line = rw (digits_hex header (omega arith) header_are, line_read header header_are) (header_fault v g l (length ss) t r fit.variables_few fit.globals_few fit.literals_few)

  -- the first line is the header's
  header_first_lem : bytes_of (first_line text) ≡ header
  unfolding text plan_text header
  header_first_lem = rw (text_first header (map frame_of ss)) (line_read header header_are)

  lines_pass : first_from Plan 0 0 text ≡ Accepted (1 + length ss) 0
  unfolding text plan_text first_lines header
  lines_pass = rw (text_split (plan_frames v g l t r ss)) (rw header_line (steps_first (plan_counts v g l) counts_fit ss fit.steps 0))

  steps_say_lem : steps_say text ≡ length ss
  unfolding header
  steps_say_lem = rw header_first_lem (omega arith)

  first_accepts : first_reading Plan text ≡ Accepted (1 + length ss) 0
  unfolding text
  first_accepts =
      let n : 0 < length text = omega (arith, plan_length v g l t r ss) in
      short_by text (Accepted (1 + length ss) 0) fit.short n lines_pass
      ∙ rw (steps_say_lem, eq-eqb (length ss + 1) (1 + length ss) (omega arith))

  counts_are : counts_of Plan text 0 ≡ plan_counts v g l
  unfolding header
  counts_are = rw header_first_lem

  -- the reading of plans accepts the text: as many lines as steps, and the header's
  pub plan_accepted : reading Plan (plan_text v g l t r ss) ≡ Accepted (1 + length ss) 0
  unfolding reading text header second_from
  plan_accepted = rw (first_accepts, counts_are, plan_frames_lem, header_second v g l (length ss) t r (plan_counts v g l)) (steps_second (plan_counts v g l) ss fit.steps (header ∷ []) 1 (Accepted (1 + length ss) 0))
