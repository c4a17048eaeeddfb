-- The frame of a step that fits belongs to the plan, has its kind's length and passes the limits and the range. Proved by cases on the step.
use Prim.Native.Nat.{ℕ, ◌/◌, ◌%◌, ◌<◌, ◌≤◌}
use mathlib.Core.Path.{◌≡◌, refl}
use mathlib.Core.Bool.{Bool, true, false}
use mathlib.Core.Option.{Option, none, some}
use mathlib.Core.List.{List, [], ◌∷◌, ◌++◌, flat_map}
use native.Mathlib.Omega.{arith}
use lib.ListN.{length, get_or}
use lib.Seq.{get_or-append-add}
use lib.Dec.{leb, ltb}
use lib.Pow.{are_bytes}
use borrow.Author.Tests.{lt-ltb, le-leb}
use Rattle.records.specs.Limits.{items_most, lookups_most, idempotent_most}
use Rattle.records.specs.Fields.{field_fits, field_in, field_real, field_passes, operand_in, lookup_in}
use Rattle.records.specs.FieldValues.{lookup_fits, ends_fit, rest_fits}
use Rattle.records.specs.Kinds.{kinds, kind_at}
use Rattle.records.specs.Frames.{frame_length, pass_all, frame_passes}
use Rattle.records.specs.Faults.{belongs}
use Rattle.records.specs.Field.TheVariants.{Operand as OperandField, Element as ElementField, Lookup as LookupField}
use Rattle.records.specs.Counts.{Counts}
use Rattle.records.specs.Test.TheVariants.{Limits, Range, Reals}
use Rattle.records.specs.Text.TheVariants.{Plan}
use Rattle.records.specs.Keys.{key_given}
use Rattle.records.proofs.Bools.{both, first, second}
use Rattle.records.specs.Atoms.{Operand, local, global, wild, Lookup, ByOp, ByChildPos, ByRepr, ByContains, ExpandA, DecomposeAC, DecomposeACI, Step, Join, ExtractChild, CheckChildEq, CheckEq, CheckEqGlobal, BindGlobal, CopyBinding, Expand, ExtractLitVal, CheckLit, CheckPred}
use Rattle.records.proofs.Lengths.{flat_length}
use Rattle.records.specs.Items.{Each}
use Rattle.plans.specs.StepFrames.{tag_of, index_of, operand_bytes, lookup_bytes, Element, elements_of, element_bytes, flag_of, or_zero, truth_byte, ends_flags, frame_of, Byte, CountsFit, OperandFits, LookupFits, HandleFits, StepFits}
use Rattle.records.proofs.ItemsLaws.{behind}
use Rattle.plans.proofs.Items.{items_pass}
use Rattle.plans.proofs.StepsRead.{lookup_wide}

-- ---- the kind: a step's, and no header's
pub step_belongs : (s : Step) → belongs Plan false (get_or (frame_of s) 0 0) ≡ true
unfolding frame_of kind_at kinds
step_belongs (Join t k ls) = refl
step_belongs (ExtractChild t p i) = refl
step_belongs (CheckChildEq p i c) = refl
step_belongs (CheckEq a b) = refl
step_belongs (CheckEqGlobal a g) = refl
step_belongs (BindGlobal t g) = refl
step_belongs (CopyBinding t o) = refl
step_belongs (Expand v cs (ExpandA p s)) = refl
step_belongs (Expand v cs (DecomposeAC i ms r)) = refl
step_belongs (Expand v cs (DecomposeACI r)) = refl
step_belongs (ExtractLitVal v l) = refl
step_belongs (CheckLit v x) = refl
step_belongs (CheckPred g) = refl

-- ---- the length
pub step_length : (s : Step) → length (frame_of s) ≡ frame_length (frame_of s)
unfolding frame_of kind_at kinds
step_length (Join t k ls) = let h = flat_length lookup_bytes 4 lookup_wide ls in omega arith
step_length (ExtractChild t p i) = refl
step_length (CheckChildEq p i c) = refl
step_length (CheckEq a b) = refl
step_length (CheckEqGlobal a g) = refl
step_length (BindGlobal t g) = refl
step_length (CopyBinding t o) = refl
step_length (Expand v cs (ExpandA p s)) = let h = flat_length operand_bytes 2 (λ c. refl) cs in omega arith
step_length (Expand v cs (DecomposeAC i ms r)) = let h = flat_length element_bytes 3 (λ e. refl) (elements_of cs ms) in omega arith
step_length (Expand v cs (DecomposeACI r)) = let h = flat_length operand_bytes 2 (λ c. refl) cs in omega arith
step_length (ExtractLitVal v l) = refl
step_length (CheckLit v x) = refl
step_length (CheckPred g) = refl

abbrev ElementFits : Counts → Element → Type 0
ElementFits n e = OperandFits n e.operand × Byte e.multiplicity

-- ---- items, each behind p: within the limits
tag_fits : (n : Counts) (c : Operand) → OperandFits n c → leb (tag_of c) 1 ≡ true
tag_fits n (local v) h = refl
tag_fits n (global g) h = refl
tag_fits n wild h = absurd h

operand_limits : (n m : Counts) (c : Operand) → OperandFits n c → (p q : List ℕ) → field_passes Limits m OperandField (p ++ (operand_bytes c ++ q)) (length p) ≡ true
unfolding field_passes field_fits
operand_limits n m c h p q = rw (behind p (operand_bytes c ++ q)) (tag_fits n c h)

element_limits : (n m : Counts) (e : Element) → ElementFits n e → (p q : List ℕ) → field_passes Limits m ElementField (p ++ (element_bytes e ++ q)) (length p) ≡ true
unfolding field_passes field_fits
element_limits n m e h p q = rw (behind p (element_bytes e ++ q)) (tag_fits n e.operand h.0)

lookup_limits : (n m : Counts) (l : Lookup) → LookupFits n l → (p q : List ℕ) → field_passes Limits m LookupField (p ++ (lookup_bytes l ++ q)) (length p) ≡ true
unfolding field_passes field_fits
lookup_limits n m l h p q =
    let r = lookup_bytes l ++ q in
    rw (behind p r, get_or-append-add p r 1 0, get_or-append-add p r 2 0, get_or-append-add p r 3 0) (go l h)
  where
    go : (l : Lookup) → LookupFits n l → lookup_fits (get_or (lookup_bytes l ++ q) 0 0) (get_or (lookup_bytes l ++ q) 1 0) (get_or (lookup_bytes l ++ q) 2 0) (get_or (lookup_bytes l ++ q) 3 0) ≡ true
    go (ByOp o) h = refl
    go (ByChildPos (local v) i) h = refl
    go (ByChildPos (global g) i) h = refl
    go (ByChildPos wild i) h = absurd h.0
    go (ByRepr v) h = refl
    go (ByContains (local v)) h = refl
    go (ByContains (global g)) h = refl
    go (ByContains wild) h = absurd h

-- ---- items within the counts
operand_in_lem : (n : Counts) (c : Operand) → OperandFits n c → operand_in n (tag_of c) (index_of c) ≡ true
operand_in_lem n (local v) h = lt-ltb v n.variables h
operand_in_lem n (global g) h = lt-ltb g n.globals h
operand_in_lem n wild h = absurd h

operand_range : (n : Counts) (c : Operand) → OperandFits n c → (p q : List ℕ) → field_passes Range n OperandField (p ++ (operand_bytes c ++ q)) (length p) ≡ true
unfolding field_passes field_in
operand_range n c h p q = rw (behind p (operand_bytes c ++ q), get_or-append-add p (operand_bytes c ++ q) 1 0) (operand_in_lem n c h)

element_range : (n : Counts) (e : Element) → ElementFits n e → (p q : List ℕ) → field_passes Range n ElementField (p ++ (element_bytes e ++ q)) (length p) ≡ true
unfolding field_passes field_in
element_range n e h p q = rw (behind p (element_bytes e ++ q), get_or-append-add p (element_bytes e ++ q) 1 0) (operand_in_lem n e.operand h.0)

lookup_range : (n : Counts) (l : Lookup) → LookupFits n l → (p q : List ℕ) → field_passes Range n LookupField (p ++ (lookup_bytes l ++ q)) (length p) ≡ true
unfolding field_passes field_in
lookup_range n l h p q =
    let r = lookup_bytes l ++ q in
    rw (behind p r, get_or-append-add p r 1 0, get_or-append-add p r 2 0) (go l h)
  where
    go : (l : Lookup) → LookupFits n l → lookup_in n (get_or (lookup_bytes l ++ q) 0 0) (get_or (lookup_bytes l ++ q) 1 0) (get_or (lookup_bytes l ++ q) 2 0) ≡ true
    go (ByOp o) h = refl
    go (ByChildPos c i) h = operand_in_lem n c h.0
    go (ByRepr v) h = lt-ltb v n.variables h
    go (ByContains c) h = operand_in_lem n c h

-- ---- elements, from operands and multiplicities
pub elements_length : (cs : List Operand) (ms : List ℕ) → length (elements_of cs ms) ≡ length cs
elements_length [] ms = refl
elements_length (c ∷ cs) [] = rw (elements_length cs [])
elements_length (c ∷ cs) (m ∷ ms) = rw (elements_length cs ms)

elements_fit : (n : Counts) (cs : List Operand) (ms : List ℕ) → Each (OperandFits n) cs → Each Byte ms → Each (ElementFits n) (elements_of cs ms)
elements_fit n [] ms h k = tt
elements_fit n (c ∷ cs) [] h k = ((h.0, omega arith), elements_fit n cs [] h.1 k)
elements_fit n (c ∷ cs) (m ∷ ms) h k = ((h.0, k.0), elements_fit n cs ms h.1 k.1)

each_any : {X : Type 0} (xs : List X) → Each (λ x. Unit {0}) xs
each_any [] = tt
each_any (x ∷ xs) = (tt, each_any xs)

-- ---- truth values and flags
truth_fits : (i : Bool) → leb (truth_byte i) idempotent_most ≡ true
truth_fits true = refl
truth_fits false = refl

ends_fit_lem : (p s : Option ℕ) → ends_fit (ends_flags p s) (or_zero p) (or_zero s) ≡ true
ends_fit_lem none none = refl
ends_fit_lem none (some y) = refl
ends_fit_lem (some x) none = refl
ends_fit_lem (some x) (some y) = refl

rest_fits_lem : (r : Option ℕ) → rest_fits (flag_of r) (or_zero r) ≡ true
rest_fits_lem none = refl
rest_fits_lem (some x) = refl

-- ---- 4: within the limits, whatever the counts
pub step_limits : (n m : Counts) (s : Step) → StepFits n s → frame_passes (field_passes Limits m) (frame_of s) ≡ true
unfolding frame_of kind_at kinds pass_all field_passes field_fits
step_limits n m (Join t k ls) h =
    rw (le-leb (length ls) lookups_most h.2)
    (items_pass lookup_bytes (field_passes Limits m) LookupField (LookupFits n) lookup_wide (lookup_limits n m) ls h.3 (0x40 ∷ t ∷ k ∷ length ls ∷ []))
step_limits n m (ExtractChild t p i) h = refl
step_limits n m (CheckChildEq p i (local v)) h = refl
step_limits n m (CheckChildEq p i (global g)) h = refl
step_limits n m (CheckChildEq p i wild) h = absurd h.2
step_limits n m (CheckEq a b) h = refl
step_limits n m (CheckEqGlobal a g) h = refl
step_limits n m (BindGlobal t g) h = refl
step_limits n m (CopyBinding t o) h = refl
step_limits n m (Expand v cs (ExpandA p s)) h =
    rw (ends_fit_lem p s, le-leb (length cs) items_most h.1.0)
    (items_pass operand_bytes (field_passes Limits m) OperandField (OperandFits n) (λ c. refl) (operand_limits n m) cs h.1.1 (0x47 ∷ v ∷ ends_flags p s ∷ or_zero p ∷ or_zero s ∷ length cs ∷ []))
step_limits n m (Expand v cs (DecomposeAC i ms r)) h =
    let es = elements_of cs ms in
    let few : length es ≤ items_most = omega (arith, elements_length cs ms, h.1.0) in
    rw (truth_fits i, rest_fits_lem r, le-leb (length es) items_most few)
    (items_pass element_bytes (field_passes Limits m) ElementField (ElementFits n) (λ e. refl) (element_limits n m) es (elements_fit n cs ms h.1.1 h.2.1) (0x48 ∷ v ∷ truth_byte i ∷ flag_of r ∷ or_zero r ∷ length es ∷ []))
step_limits n m (Expand v cs (DecomposeACI r)) h =
    rw (rest_fits_lem r, le-leb (length cs) items_most h.1.0)
    (items_pass operand_bytes (field_passes Limits m) OperandField (OperandFits n) (λ c. refl) (operand_limits n m) cs h.1.1 (0x49 ∷ v ∷ flag_of r ∷ or_zero r ∷ length cs ∷ []))
step_limits n m (ExtractLitVal v l) h = refl
step_limits n m (CheckLit v x) h = refl
step_limits n m (CheckPred g) h = refl

-- ---- 5: within the counts
pub step_range : (n : Counts) (s : Step) → StepFits n s → frame_passes (field_passes Range n) (frame_of s) ≡ true
unfolding frame_of kind_at kinds pass_all field_passes field_in
step_range n (Join t k ls) h =
    rw (lt-ltb t n.variables h.0, lt-ltb k n.atoms h.1)
    (items_pass lookup_bytes (field_passes Range n) LookupField (LookupFits n) lookup_wide (lookup_range n) ls h.3 (0x40 ∷ t ∷ k ∷ length ls ∷ []))
step_range n (ExtractChild t p i) h = rw (lt-ltb t n.variables h.0, lt-ltb p n.variables h.1)
step_range n (CheckChildEq p i c) h = rw (lt-ltb p n.variables h.0, operand_in_lem n c h.2)
step_range n (CheckEq a b) h = rw (lt-ltb a n.variables h.0, lt-ltb b n.variables h.1)
step_range n (CheckEqGlobal a g) h = rw (lt-ltb a n.variables h.0, lt-ltb g n.globals h.1)
step_range n (BindGlobal t g) h = rw (lt-ltb t n.variables h.0, lt-ltb g n.globals h.1)
step_range n (CopyBinding t o) h = rw (lt-ltb t n.variables h.0, lt-ltb o n.variables h.1)
step_range n (Expand v cs (ExpandA p s)) h =
    rw (lt-ltb v n.variables h.0)
    (items_pass operand_bytes (field_passes Range n) OperandField (OperandFits n) (λ c. refl) (operand_range n) cs h.1.1 (0x47 ∷ v ∷ ends_flags p s ∷ or_zero p ∷ or_zero s ∷ length cs ∷ []))
step_range n (Expand v cs (DecomposeAC i ms r)) h =
    let es = elements_of cs ms in
    rw (lt-ltb v n.variables h.0)
    (items_pass element_bytes (field_passes Range n) ElementField (ElementFits n) (λ e. refl) (element_range n) es (elements_fit n cs ms h.1.1 h.2.1) (0x48 ∷ v ∷ truth_byte i ∷ flag_of r ∷ or_zero r ∷ length es ∷ []))
step_range n (Expand v cs (DecomposeACI r)) h =
    rw (lt-ltb v n.variables h.0)
    (items_pass operand_bytes (field_passes Range n) OperandField (OperandFits n) (λ c. refl) (operand_range n) cs h.1.1 (0x49 ∷ v ∷ flag_of r ∷ or_zero r ∷ length cs ∷ []))
step_range n (ExtractLitVal v l) h = rw (lt-ltb v n.variables h.0, lt-ltb l n.literals h.1)
step_range n (CheckLit v x) h = rw (lt-ltb v n.variables h.0)
step_range n (CheckPred g) h = refl

-- ---- 6: a step has no number that is a real
pub step_reals : (n : Counts) (s : Step) → frame_passes (field_passes Reals n) (frame_of s) ≡ true
unfolding frame_of kind_at kinds pass_all field_passes field_real
step_reals n (Join t k ls) = items_pass lookup_bytes (field_passes Reals n) LookupField (λ l. Unit {0}) lookup_wide (λ l u p q. refl) ls (each_any ls) (0x40 ∷ t ∷ k ∷ length ls ∷ [])
step_reals n (ExtractChild t p i) = refl
step_reals n (CheckChildEq p i c) = refl
step_reals n (CheckEq a b) = refl
step_reals n (CheckEqGlobal a g) = refl
step_reals n (BindGlobal t g) = refl
step_reals n (CopyBinding t o) = refl
step_reals n (Expand v cs (ExpandA p s)) = items_pass operand_bytes (field_passes Reals n) OperandField (λ c. Unit {0}) (λ c. refl) (λ c u p q. refl) cs (each_any cs) (0x47 ∷ v ∷ ends_flags p s ∷ or_zero p ∷ or_zero s ∷ length cs ∷ [])
step_reals n (Expand v cs (DecomposeAC i ms r)) = let es = elements_of cs ms in items_pass element_bytes (field_passes Reals n) ElementField (λ e. Unit {0}) (λ e. refl) (λ e u p q. refl) es (each_any es) (0x48 ∷ v ∷ truth_byte i ∷ flag_of r ∷ or_zero r ∷ length es ∷ [])
step_reals n (Expand v cs (DecomposeACI r)) = items_pass operand_bytes (field_passes Reals n) OperandField (λ c. Unit {0}) (λ c. refl) (λ c u p q. refl) cs (each_any cs) (0x49 ∷ v ∷ flag_of r ∷ or_zero r ∷ length cs ∷ [])
step_reals n (ExtractLitVal v l) = refl
step_reals n (CheckLit v x) = refl
step_reals n (CheckPred g) = refl

-- ---- 7: a step has no key
pub step_keyless : (earlier : List (List ℕ)) (s : Step) → key_given earlier (frame_of s) ≡ false
unfolding frame_of kind_at kinds key_given
step_keyless earlier (Join t k ls) = refl
step_keyless earlier (ExtractChild t p i) = refl
step_keyless earlier (CheckChildEq p i c) = refl
step_keyless earlier (CheckEq a b) = refl
step_keyless earlier (CheckEqGlobal a g) = refl
step_keyless earlier (BindGlobal t g) = refl
step_keyless earlier (CopyBinding t o) = refl
step_keyless earlier (Expand v cs (ExpandA p s)) = refl
step_keyless earlier (Expand v cs (DecomposeAC i ms r)) = refl
step_keyless earlier (Expand v cs (DecomposeACI r)) = refl
step_keyless earlier (ExtractLitVal v l) = refl
step_keyless earlier (CheckLit v x) = refl
step_keyless earlier (CheckPred g) = refl

-- ---- every byte of it is one
pub bytes_append : (f g : List ℕ) → are_bytes f ≡ true → are_bytes g ≡ true → are_bytes (f ++ g) ≡ true
bytes_append [] g h k = k
bytes_append (b ∷ f) g h k = both (first (ltb b 256) (are_bytes f) h) (bytes_append f g (second (ltb b 256) (are_bytes f) h) k)

pub items_bytes_lem : {X : Type 0} (g : X → List ℕ) (Q : X → Type 0) → ((x : X) → Q x → are_bytes (g x) ≡ true) → (xs : List X) → Each Q xs → are_bytes (flat_map g xs) ≡ true
unfolding flat_map
items_bytes_lem g Q r [] h = refl
items_bytes_lem g Q r (x ∷ xs) h = bytes_append (g x) (flat_map g xs) (r x h.0) (items_bytes_lem g Q r xs h.1)

module _ (n : Counts) (fit : CountsFit n) where
  variable_byte : {v : ℕ} → v < n.variables → ltb v 256 ≡ true
  variable_byte {v} h = lt-ltb v 256 (omega (arith, fit.variables))

  global_byte : {v : ℕ} → v < n.globals → ltb v 256 ≡ true
  global_byte {v} h = lt-ltb v 256 (omega (arith, fit.globals))

  operand_bytes_lem : (c : Operand) → OperandFits n c → are_bytes (operand_bytes c) ≡ true
  operand_bytes_lem (local v) h = rw (variable_byte h)
  operand_bytes_lem (global g) h = rw (global_byte h)
  operand_bytes_lem wild h = absurd h

  element_bytes_lem : (e : Element) → ElementFits n e → are_bytes (element_bytes e) ≡ true
  element_bytes_lem e h = bytes_append (operand_bytes e.operand) (e.multiplicity ∷ []) (operand_bytes_lem e.operand h.0) (rw (lt-ltb e.multiplicity 256 h.1))

  lookup_bytes_lem : (l : Lookup) → LookupFits n l → are_bytes (lookup_bytes l) ≡ true
  lookup_bytes_lem (ByOp o) h = rw (lt-ltb o 256 h)
  lookup_bytes_lem (ByChildPos c i) h = bytes_append (operand_bytes c) (i ∷ []) (operand_bytes_lem c h.0) (rw (lt-ltb i 256 h.1))
  lookup_bytes_lem (ByRepr v) h = rw (variable_byte h)
  lookup_bytes_lem (ByContains c) h = bytes_append (operand_bytes c) (0 ∷ []) (operand_bytes_lem c h) refl

  handle_byte : (r : Option ℕ) → HandleFits r → ltb (or_zero r) 256 ≡ true
  handle_byte none h = refl
  handle_byte (some x) h = lt-ltb x 256 h

  truth_byte_lem : (i : Bool) → ltb (truth_byte i) 256 ≡ true
  truth_byte_lem true = refl
  truth_byte_lem false = refl

  flag_byte : (r : Option ℕ) → ltb (flag_of r) 256 ≡ true
  flag_byte none = refl
  flag_byte (some x) = refl

  flags_byte : (p s : Option ℕ) → ltb (ends_flags p s) 256 ≡ true
  flags_byte none none = refl
  flags_byte none (some y) = refl
  flags_byte (some x) none = refl
  flags_byte (some x) (some y) = refl

  pub step_bytes : (s : Step) → StepFits n s → are_bytes (frame_of s) ≡ true
  unfolding frame_of
  step_bytes (Join t k ls) h = rw (variable_byte h.0, lt-ltb k 256 (omega (arith, h.1, fit.atoms)), lt-ltb (length ls) 256 (omega (arith, h.2))) (items_bytes_lem lookup_bytes (LookupFits n) lookup_bytes_lem ls h.3)
  step_bytes (ExtractChild t p i) h = rw (variable_byte h.0, variable_byte h.1, lt-ltb i 256 h.2)
  step_bytes (CheckChildEq p i c) h = rw (variable_byte h.0, lt-ltb i 256 h.1) (operand_bytes_lem c h.2)
  step_bytes (CheckEq a b) h = rw (variable_byte h.0, variable_byte h.1)
  step_bytes (CheckEqGlobal a g) h = rw (variable_byte h.0, global_byte h.1)
  step_bytes (BindGlobal t g) h = rw (variable_byte h.0, global_byte h.1)
  step_bytes (CopyBinding t o) h = rw (variable_byte h.0, variable_byte h.1)
  step_bytes (Expand v cs (ExpandA p s)) h = rw (variable_byte h.0, flags_byte p s, handle_byte p h.2.0, handle_byte s h.2.1, lt-ltb (length cs) 256 (omega (arith, h.1.0))) (items_bytes_lem operand_bytes (OperandFits n) operand_bytes_lem cs h.1.1)
  step_bytes (Expand v cs (DecomposeAC i ms r)) h =
      let es = elements_of cs ms in
      let few : length es < 256 = omega (arith, elements_length cs ms, h.1.0) in
      rw (variable_byte h.0, truth_byte_lem i, flag_byte r, handle_byte r h.2.2, lt-ltb (length es) 256 few) (items_bytes_lem element_bytes (ElementFits n) element_bytes_lem es (elements_fit n cs ms h.1.1 h.2.1))
  step_bytes (Expand v cs (DecomposeACI r)) h = rw (variable_byte h.0, flag_byte r, handle_byte r h.2, lt-ltb (length cs) 256 (omega (arith, h.1.0))) (items_bytes_lem operand_bytes (OperandFits n) operand_bytes_lem cs h.1.1)
  step_bytes (ExtractLitVal v l) h = rw (variable_byte h.0, lt-ltb l 256 (omega (arith, h.1, fit.literals)))
  step_bytes (CheckLit v x) h = let z = h.1 in rw (variable_byte h.0, lt-ltb (x / 0x100_0000) 256 (omega arith), lt-ltb (x / 0x1_0000 % 0x100) 256 (omega arith), lt-ltb (x / 0x100 % 0x100) 256 (omega arith), lt-ltb (x % 0x100) 256 (omega arith))
  step_bytes (CheckPred g) h = rw (lt-ltb g 256 h)
