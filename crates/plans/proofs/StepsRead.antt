-- A step that is written is read back: `read_back`; and which are no Join. Proved by cases on the step, by the laws of items.
use Prim.Native.Nat.{ℕ, ◌+◌, ◌%◌}
use mathlib.Core.Path.{◌≡◌, refl, ◌∙◌, ap}
use mathlib.Core.Bool.{Bool, true, false}
use mathlib.Core.Option.{Option, none, some}
use mathlib.Core.List.{List, [], ◌∷◌, ◌++◌, map, flat_map}
use native.Mathlib.Omega.{arith}
use lib.ListN.{length, get_or}
use lib.Seq.{get_or-append-add}
use lib.Dec.{eqb, leb}
use borrow.Author.Tests.{ne_eqb}
use Rattle.records.specs.Choose.{pick}
use Rattle.records.specs.Digits.{word_at}
use Rattle.records.specs.Counts.{Counts}
use Rattle.records.specs.Atoms.{Operand, local, global, wild, Lookup, ByOp, ByChildPos, ByRepr, ByContains, ExpandA, DecomposeAC, DecomposeACI, Step, Join, ExtractChild, CheckChildEq, CheckEq, CheckEqGlobal, BindGlobal, CopyBinding, Expand, ExtractLitVal, CheckLit, CheckPred, is_join}
use Rattle.records.specs.Items.{items_at, Each}
use Rattle.records.specs.Lookups.{operand_at, lookup_at}
use Rattle.plans.specs.StepFrames.{operand_bytes, lookup_bytes, Element, elements_of, element_bytes, flag_of, or_zero, truth_byte, ends_flags, word_bytes, frame_of, element_at, some_if, step_of, OperandFits, LookupFits, StepFits}
use Rattle.records.proofs.ItemsLaws.{items_read, behind}

-- what begins behind p
operand_behind : (p r : List ℕ) → operand_at (p ++ r) (length p) ≡ operand_at r 0
operand_behind p r = rw (behind p r, get_or-append-add p r 1 0)

lookup_behind : (p r : List ℕ) → lookup_at (p ++ r) (length p) ≡ lookup_at r 0
lookup_behind p r =
    let e : length p + 1 + 1 ≡ length p + 2 = omega arith in
    rw (e, behind p r, get_or-append-add p r 1 0, get_or-append-add p r 2 0, get_or-append-add p r 3 0)

element_behind : (p r : List ℕ) → element_at (p ++ r) (length p) ≡ element_at r 0
element_behind p r = rw (behind p r, get_or-append-add p r 1 0, get_or-append-add p r 2 0)

operand_at_lem : (n : Counts) (c : Operand) → OperandFits n c → (p q : List ℕ) → operand_at (p ++ (operand_bytes c ++ q)) (length p) ≡ c
operand_at_lem n c h p q = operand_behind p (operand_bytes c ++ q) ∙ go c h
  where
    go : (c : Operand) → OperandFits n c → operand_at (operand_bytes c ++ q) 0 ≡ c
    go (local v) h = refl
    go (global g) h = refl
    go wild h = absurd h

lookup_at_lem : (n : Counts) (l : Lookup) → LookupFits n l → (p q : List ℕ) → lookup_at (p ++ (lookup_bytes l ++ q)) (length p) ≡ l
lookup_at_lem n l h p q = lookup_behind p (lookup_bytes l ++ q) ∙ go l h
  where
    go : (l : Lookup) → LookupFits n l → lookup_at (lookup_bytes l ++ q) 0 ≡ l
    go (ByOp o) h = refl
    go (ByChildPos (local v) i) h = refl
    go (ByChildPos (global g) i) h = refl
    go (ByChildPos wild i) h = absurd h.0
    go (ByRepr v) h = refl
    go (ByContains (local v)) h = refl
    go (ByContains (global g)) h = refl
    go (ByContains wild) h = absurd h

element_at_lem : (n : Counts) (e : Element) → OperandFits n e.operand → (p q : List ℕ) → element_at (p ++ (element_bytes e ++ q)) (length p) ≡ e
element_at_lem n e h p q = element_behind p (element_bytes e ++ q) ∙ go e.operand h
  where
    go : (c : Operand) → OperandFits n c → element_at (element_bytes (record { operand = c; multiplicity = e.multiplicity }) ++ q) 0 ≡ record { operand = c; multiplicity = e.multiplicity }
    go (local v) h = refl
    go (global g) h = refl
    go wild h = absurd h

elements_fit : (n : Counts) (cs : List Operand) (ms : List ℕ) → Each (OperandFits n) cs → Each (λ e. OperandFits n e.operand) (elements_of cs ms)
elements_fit n [] ms h = tt
elements_fit n (c ∷ cs) [] h = (h.0, elements_fit n cs [] h.1)
elements_fit n (c ∷ cs) (m ∷ ms) h = (h.0, elements_fit n cs ms h.1)

-- as many items as n says, behind the fields p
operands_read : (n : Counts) (cs : List Operand) → Each (OperandFits n) cs → (p : List ℕ) → items_at operand_at 2 (p ++ flat_map operand_bytes cs) (length p) (length cs) ≡ cs
operands_read n = items_read operand_bytes 2 (λ c. refl) operand_at (OperandFits n) (operand_at_lem n)

pub lookup_wide : (l : Lookup) → length (lookup_bytes l) ≡ 4
lookup_wide (ByOp o) = refl
lookup_wide (ByChildPos c i) = refl
lookup_wide (ByRepr n) = refl
lookup_wide (ByContains c) = refl

lookups_read : (n : Counts) (ls : List Lookup) → Each (LookupFits n) ls → (p : List ℕ) → items_at lookup_at 4 (p ++ flat_map lookup_bytes ls) (length p) (length ls) ≡ ls
lookups_read n = items_read lookup_bytes 4 lookup_wide lookup_at (LookupFits n) (lookup_at_lem n)

elements_read : (n : Counts) (es : List Element) → Each (λ e. OperandFits n e.operand) es → (p : List ℕ) → items_at element_at 3 (p ++ flat_map element_bytes es) (length p) (length es) ≡ es
elements_read n = items_read element_bytes 3 (λ e. refl) element_at (λ e. OperandFits n e.operand) (element_at_lem n)

-- operands and multiplicities from their elements
operands_of : (cs : List Operand) (ms : List ℕ) → map (λ e. e.operand) (elements_of cs ms) ≡ cs
operands_of [] ms = refl
operands_of (c ∷ cs) [] = ap {B = List Operand} (λ l. c ∷ l) (operands_of cs [])
operands_of (c ∷ cs) (m ∷ ms) = ap {B = List Operand} (λ l. c ∷ l) (operands_of cs ms)

multiplicities_of : (cs : List Operand) (ms : List ℕ) → length ms ≡ length cs → map (λ e. e.multiplicity) (elements_of cs ms) ≡ ms
multiplicities_of [] [] h = refl
multiplicities_of [] (m ∷ ms) h = absurd (omega arith)
multiplicities_of (c ∷ cs) [] h = absurd (omega arith)
multiplicities_of (c ∷ cs) (m ∷ ms) h = ap {B = List ℕ} (λ l. m ∷ l) (multiplicities_of cs ms (omega arith))

-- truth values and flags
truth_read : (i : Bool) → eqb (truth_byte i) 1 ≡ i
truth_read true = refl
truth_read false = refl

rest_read : (r : Option ℕ) → some_if (eqb (flag_of r) 1) (or_zero r) ≡ r
rest_read none = refl
rest_read (some x) = refl

pre_read : (p s : Option ℕ) → some_if (eqb (ends_flags p s % 2) 1) (or_zero p) ≡ p
pre_read none none = refl
pre_read none (some y) = refl
pre_read (some x) none = refl
pre_read (some x) (some y) = refl

suf_read : (p s : Option ℕ) → some_if (leb 2 (ends_flags p s)) (or_zero s) ≡ s
suf_read none none = refl
suf_read none (some y) = refl
suf_read (some x) none = refl
suf_read (some x) (some y) = refl

-- a value from its four bytes
word_read : (k v x : ℕ) → word_at (k ∷ v ∷ word_bytes x) 2 ≡ x
word_read k v x = omega arith

pub read_back : (n : Counts) (s : Step) → StepFits n s → step_of (frame_of s) ≡ s
unfolding frame_of step_of
read_back n (Join t k ls) h = rw (lookups_read n ls h.3 (0x40 ∷ t ∷ k ∷ length ls ∷ []))
read_back n (ExtractChild t p i) h = refl
read_back n (CheckChildEq p i (local v)) h = refl
read_back n (CheckChildEq p i (global g)) h = refl
read_back n (CheckChildEq p i wild) h = absurd h.2
read_back n (CheckEq a b) h = refl
read_back n (CheckEqGlobal a g) h = refl
read_back n (BindGlobal t g) h = refl
read_back n (CopyBinding t o) h = refl
read_back n (Expand v cs (ExpandA p s)) h = rw (operands_read n cs h.1.1 (0x47 ∷ v ∷ ends_flags p s ∷ or_zero p ∷ or_zero s ∷ length cs ∷ []), pre_read p s, suf_read p s)
read_back n (Expand v cs (DecomposeAC i ms r)) h =
    rw (elements_read n (elements_of cs ms) (elements_fit n cs ms h.1.1) (0x48 ∷ v ∷ truth_byte i ∷ flag_of r ∷ or_zero r ∷ length (elements_of cs ms) ∷ []), operands_of cs ms, multiplicities_of cs ms h.2.0, truth_read i, rest_read r)
read_back n (Expand v cs (DecomposeACI r)) h = rw (operands_read n cs h.1.1 (0x49 ∷ v ∷ flag_of r ∷ or_zero r ∷ length cs ∷ []), rest_read r)
read_back n (ExtractLitVal v l) h = refl
read_back n (CheckLit v x) h = rw (word_read 0x4b v x)
read_back n (CheckPred g) h = refl

-- ---- a step of another kind than 40 is no Join

neither : (t : Bool) (s u : Step) → is_join s ≡ false → is_join u ≡ false → is_join (pick t s u) ≡ false
neither true s u p q = p
neither false s u p q = q

pub no_join : (f : List ℕ) (k : ℕ) → k ≡ get_or f 0 0 → (k ≡ 0x40 → ⊥) → is_join (step_of f) ≡ false
unfolding step_of
no_join f k is h =
    rw (← is, ne_eqb k 0x40 h)
    (neither (eqb k 0x41) _ _ refl (neither (eqb k 0x42) _ _ refl (neither (eqb k 0x43) _ _ refl (neither (eqb k 0x44) _ _ refl (neither (eqb k 0x45) _ _ refl (neither (eqb k 0x46) _ _ refl
    (neither (eqb k 0x47) _ _ refl (neither (eqb k 0x48) _ _ refl (neither (eqb k 0x49) _ _ refl (neither (eqb k 0x4a) _ _ refl (neither (eqb k 0x4b) _ _ refl refl)))))))))))
