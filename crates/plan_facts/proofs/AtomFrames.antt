-- A frame that passes the limits and the range is an atom within its limits: `frame_fits`. Proved by cases on the kind, from its fields.
use Prim.Native.Nat.{ℕ, zero, suc, ◌+◌, ◌<◌, ◌≤◌}
use mathlib.Core.Path.{◌≡◌, refl, sym, ◌∙◌, ap, subst}
use mathlib.Core.Bool.{Bool, true, false}
use mathlib.Core.List.{List, [], ◌∷◌}
use native.Mathlib.Omega.{arith}
use lib.ListN.{length, get_or, replicate}
use lib.Dec.{T, ltb, leb, eqb}
use lib.Pow.{are_bytes}
use borrow.Author.Tests.{ltb-true, leb-true}
use Rattle.reading_facts.specs.Choose.{pick}
use Rattle.reading_facts.proofs.ChooseLaws.{both_hold}
use Rattle.reading_facts.specs.Digits.{word_at}
use Rattle.reading_facts.proofs.Bytes.{byte_at}
use Rattle.reading_facts.specs.Limits.{items_most}
use Rattle.reading_facts.specs.Fields.{width, field_passes, field_fits, field_in, operand_in, no_counts}
use Rattle.reading_facts.specs.Kinds.{kinds, kind_at, fixed_length}
use Rattle.reading_facts.specs.Frames.{kind_of, pass_all, item_fields, frame_passes}
use Rattle.reading_facts.specs.Faults.{is_atom}
use Rattle.reading_facts.specs.Field.{Field}
use Rattle.reading_facts.specs.Field.TheVariants.{Operand as OperandField, Element as ElementField, Atom as AtomField}
use Rattle.reading_facts.specs.Counts.{Counts}
use Rattle.reading_facts.specs.Test.TheVariants.{Limits, Range}
use Rattle.plans.specs.Atoms.{local, global}
use Rattle.cost.specs.QueryAtoms.{operands_from, bytes_from, atom_of_frame}
use Rattle.cost.specs.Lookups.{operand_at}
use Rattle.cost.proofs.Operands.{operands_length}
use Rattle.plans.specs.Items.{Each}
use Rattle.plans.specs.StepFrames.{Byte, OperandFits, OperandsFit, AtomFits}

-- ---- the fields one by one

abbrev Passes : (Field → List ℕ → ℕ → Bool) → List Field → List ℕ → ℕ → Type 0
Passes P [] f i = Unit {0}
Passes P (x ∷ xs) f i = (P x f i ≡ true) × Passes P xs f (i + width x)

passes : (P : Field → List ℕ → ℕ → Bool) (xs : List Field) (f : List ℕ) (i : ℕ) → pass_all P xs f i ≡ true → Passes P xs f i
unfolding pass_all
passes P [] f i h = tt
passes P (x ∷ xs) f i h = let b = both_hold (P x f i) (pass_all P xs f (i + width x)) h in (b.0, passes P xs f (i + width x) b.1)

-- a frame's fields, then its items
abbrev FramePasses : (Field → List ℕ → ℕ → Bool) → List ℕ → Type 0
FramePasses P f = Passes P (kind_of f).fields f 1 × Passes P (item_fields f) f (fixed_length (kind_of f))

frame_passes_lem : (P : Field → List ℕ → ℕ → Bool) (f : List ℕ) → frame_passes P f ≡ true → FramePasses P f
frame_passes_lem P f h =
    let b = both_hold (pass_all P (kind_of f).fields f 1) (pass_all P (item_fields f) f (fixed_length (kind_of f))) h in
    (passes P (kind_of f).fields f 1 b.0, passes P (item_fields f) f (fixed_length (kind_of f)) b.1)

-- ---- bytes
are_bytes_lem : (f : List ℕ) → are_bytes f ≡ true → (i : ℕ) → get_or f i 0 < 256
are_bytes_lem f h = byte_at f (subst T (sym h) tt)

word_at_lem : (f : List ℕ) → are_bytes f ≡ true → (i : ℕ) → word_at f i < 0x1_0000_0000
word_at_lem f h i = omega (arith, are_bytes_lem f h i, are_bytes_lem f h (i + 1), are_bytes_lem f h (i + 2), are_bytes_lem f h (i + 2 + 1))

bytes_fit : (f : List ℕ) → are_bytes f ≡ true → (i w k : ℕ) → Each Byte (bytes_from f i w k)
unfolding bytes_from
bytes_fit f h i w zero = tt
bytes_fit f h i w (suc k) = (are_bytes_lem f h i, bytes_fit f h (i + w) w k)

bytes_length : (f : List ℕ) (i w k : ℕ) → length (bytes_from f i w k) ≡ k
unfolding bytes_from
bytes_length f i w zero = refl
bytes_length f i w (suc k) = ap suc (bytes_length f (i + w) w k)

-- ---- operands
operand_fits : (n : Counts) (f : List ℕ) (i : ℕ) → operand_in n (get_or f i 0) (get_or f (i + 1) 0) ≡ true → OperandFits n (operand_at f i)
operand_fits n f i = go (eqb (get_or f i 0) 0)
  where
    go : (b : Bool) → pick b (ltb (get_or f (i + 1) 0) n.variables) (ltb (get_or f (i + 1) 0) n.globals) ≡ true → OperandFits n (pick b (local (get_or f (i + 1) 0)) (global (get_or f (i + 1) 0)))
    go true h = ltb-true _ _ h
    go false h = ltb-true _ _ h

operands_fit : (n : Counts) (t : Field) (f : List ℕ) → ((i : ℕ) → field_passes Range n t f i ≡ operand_in n (get_or f i 0) (get_or f (i + 1) 0)) → (k i : ℕ) → Passes (field_passes Range n) (replicate k t) f i → Each (OperandFits n) (operands_from f i (width t) k)
unfolding operands_from
operands_fit n t f e zero i h = tt
operands_fit n t f e (suc k) i h = (operand_fits n f i (sym (e i) ∙ h.0), operands_fit n t f e k (i + width t) h.1)

atoms_fit : (n : Counts) (f : List ℕ) (k i : ℕ) → Passes (field_passes Range n) (replicate k AtomField) f i → Each (λ d. d < n.atoms) (bytes_from f i 1 k)
unfolding bytes_from field_passes field_in
atoms_fit n f zero i h = tt
atoms_fit n f (suc k) i h = (ltb-true _ _ h.0, atoms_fit n f k (i + 1) h.1)

-- ---- a frame of the query
pub record Good (n : Counts) (f : List ℕ) : Type 0 where
  pub bytes : are_bytes f ≡ true
  pub limits : frame_passes (field_passes Limits no_counts) f ≡ true
  pub range : frame_passes (field_passes Range n) f ≡ true

module _ (n : Counts) where
  operands_in : (f : List ℕ) (i k : ℕ) → leb k items_most ≡ true → Passes (field_passes Range n) (replicate k OperandField) f i → OperandsFit n (operands_from f i 2 k)
  unfolding field_passes field_in
  operands_in f i k h r = (omega (arith, operands_length f i 2 k, leb-true k items_most h), operands_fit n OperandField f (λ j. refl) k i r)

  elements_in : (f : List ℕ) (i k : ℕ) → leb k items_most ≡ true → Passes (field_passes Range n) (replicate k ElementField) f i → OperandsFit n (operands_from f i 3 k)
  unfolding field_passes field_in
  elements_in f i k h r = (omega (arith, operands_length f i 3 k, leb-true k items_most h), operands_fit n ElementField f (λ j. refl) k i r)

  -- as many multiplicities as operands
  multiplicities : (f : List ℕ) (i j k : ℕ) → length (bytes_from f j 3 k) ≡ length (operands_from f i 3 k)
  multiplicities f i j k = bytes_length f j 3 k ∙ sym (operands_length f i 3 k)

  plain : (f : List ℕ) → Good n (0x01 ∷ f) → AtomFits n (atom_of_frame (0x01 ∷ f))
  unfolding atom_of_frame kind_at kinds field_passes field_fits field_in
  plain f g =
      let l = frame_passes_lem (field_passes Limits no_counts) (0x01 ∷ f) g.limits in
      let r = frame_passes_lem (field_passes Range n) (0x01 ∷ f) g.range in
      let b = are_bytes_lem (0x01 ∷ f) g.bytes in
      (ltb-true _ _ r.0.0, b 2, operands_in (0x01 ∷ f) 4 (get_or (0x01 ∷ f) 3 0) l.0.1.1.0 r.1)

  lit : (f : List ℕ) → Good n (0x02 ∷ f) → AtomFits n (atom_of_frame (0x02 ∷ f))
  unfolding atom_of_frame kind_at kinds field_passes field_fits field_in
  lit f g =
      let l = frame_passes_lem (field_passes Limits no_counts) (0x02 ∷ f) g.limits in
      let r = frame_passes_lem (field_passes Range n) (0x02 ∷ f) g.range in
      let b = are_bytes_lem (0x02 ∷ f) g.bytes in
      (ltb-true _ _ r.0.0, b 2, word_at_lem (0x02 ∷ f) g.bytes 4)

  lit_bind : (f : List ℕ) → Good n (0x03 ∷ f) → AtomFits n (atom_of_frame (0x03 ∷ f))
  unfolding atom_of_frame kind_at kinds field_passes field_fits field_in
  lit_bind f g =
      let l = frame_passes_lem (field_passes Limits no_counts) (0x03 ∷ f) g.limits in
      let r = frame_passes_lem (field_passes Range n) (0x03 ∷ f) g.range in
      let b = are_bytes_lem (0x03 ∷ f) g.bytes in
      (ltb-true _ _ r.0.0, b 2, ltb-true _ _ r.0.1.1.0)

  eq : (f : List ℕ) → Good n (0x04 ∷ f) → AtomFits n (atom_of_frame (0x04 ∷ f))
  unfolding atom_of_frame kind_at kinds field_passes field_fits field_in
  eq f g =
      let l = frame_passes_lem (field_passes Limits no_counts) (0x04 ∷ f) g.limits in
      let r = frame_passes_lem (field_passes Range n) (0x04 ∷ f) g.range in
      let b = are_bytes_lem (0x04 ∷ f) g.bytes in
      (ltb-true _ _ r.0.0, ltb-true _ _ r.0.1.0)

  eq_global : (f : List ℕ) → Good n (0x05 ∷ f) → AtomFits n (atom_of_frame (0x05 ∷ f))
  unfolding atom_of_frame kind_at kinds field_passes field_fits field_in
  eq_global f g =
      let l = frame_passes_lem (field_passes Limits no_counts) (0x05 ∷ f) g.limits in
      let r = frame_passes_lem (field_passes Range n) (0x05 ∷ f) g.range in
      let b = are_bytes_lem (0x05 ∷ f) g.bytes in
      (ltb-true _ _ r.0.0, ltb-true _ _ r.0.1.0)

  pred : (f : List ℕ) → Good n (0x06 ∷ f) → AtomFits n (atom_of_frame (0x06 ∷ f))
  unfolding atom_of_frame kind_at kinds field_passes field_fits field_in
  pred f g =
      let l = frame_passes_lem (field_passes Limits no_counts) (0x06 ∷ f) g.limits in
      let r = frame_passes_lem (field_passes Range n) (0x06 ∷ f) g.range in
      let b = are_bytes_lem (0x06 ∷ f) g.bytes in
      (b 1, omega (arith, bytes_length (0x06 ∷ f) 3 1 (get_or (0x06 ∷ f) 2 0), leb-true (get_or (0x06 ∷ f) 2 0) items_most l.0.1.0), atoms_fit n (0x06 ∷ f) (get_or (0x06 ∷ f) 2 0) 3 r.1)

  a_exact : (f : List ℕ) → Good n (0x07 ∷ f) → AtomFits n (atom_of_frame (0x07 ∷ f))
  unfolding atom_of_frame kind_at kinds field_passes field_fits field_in
  a_exact f g =
      let l = frame_passes_lem (field_passes Limits no_counts) (0x07 ∷ f) g.limits in
      let r = frame_passes_lem (field_passes Range n) (0x07 ∷ f) g.range in
      let b = are_bytes_lem (0x07 ∷ f) g.bytes in
      (ltb-true _ _ r.0.0, b 2, operands_in (0x07 ∷ f) 4 (get_or (0x07 ∷ f) 3 0) l.0.1.1.0 r.1, (tt, tt))

  a_prefix : (f : List ℕ) → Good n (0x08 ∷ f) → AtomFits n (atom_of_frame (0x08 ∷ f))
  unfolding atom_of_frame kind_at kinds field_passes field_fits field_in
  a_prefix f g =
      let l = frame_passes_lem (field_passes Limits no_counts) (0x08 ∷ f) g.limits in
      let r = frame_passes_lem (field_passes Range n) (0x08 ∷ f) g.range in
      let b = are_bytes_lem (0x08 ∷ f) g.bytes in
      (ltb-true _ _ r.0.0, b 2, operands_in (0x08 ∷ f) 5 (get_or (0x08 ∷ f) 4 0) l.0.1.1.1.0 r.1, (b 3, tt))

  a_suffix : (f : List ℕ) → Good n (0x09 ∷ f) → AtomFits n (atom_of_frame (0x09 ∷ f))
  unfolding atom_of_frame kind_at kinds field_passes field_fits field_in
  a_suffix f g =
      let l = frame_passes_lem (field_passes Limits no_counts) (0x09 ∷ f) g.limits in
      let r = frame_passes_lem (field_passes Range n) (0x09 ∷ f) g.range in
      let b = are_bytes_lem (0x09 ∷ f) g.bytes in
      (ltb-true _ _ r.0.0, b 2, operands_in (0x09 ∷ f) 5 (get_or (0x09 ∷ f) 4 0) l.0.1.1.1.0 r.1, (tt, b 3))

  a_both : (f : List ℕ) → Good n (0x0a ∷ f) → AtomFits n (atom_of_frame (0x0a ∷ f))
  unfolding atom_of_frame kind_at kinds field_passes field_fits field_in
  a_both f g =
      let l = frame_passes_lem (field_passes Limits no_counts) (0x0a ∷ f) g.limits in
      let r = frame_passes_lem (field_passes Range n) (0x0a ∷ f) g.range in
      let b = are_bytes_lem (0x0a ∷ f) g.bytes in
      (ltb-true _ _ r.0.0, b 2, operands_in (0x0a ∷ f) 6 (get_or (0x0a ∷ f) 5 0) l.0.1.1.1.1.0 r.1, (b 3, b 4))

  ac_exact : (f : List ℕ) → Good n (0x0b ∷ f) → AtomFits n (atom_of_frame (0x0b ∷ f))
  unfolding atom_of_frame kind_at kinds field_passes field_fits field_in
  ac_exact f g =
      let l = frame_passes_lem (field_passes Limits no_counts) (0x0b ∷ f) g.limits in
      let r = frame_passes_lem (field_passes Range n) (0x0b ∷ f) g.range in
      let b = are_bytes_lem (0x0b ∷ f) g.bytes in
      (ltb-true _ _ r.0.0, b 2, elements_in (0x0b ∷ f) 4 (get_or (0x0b ∷ f) 3 0) l.0.1.1.0 r.1, (multiplicities (0x0b ∷ f) 4 6 (get_or (0x0b ∷ f) 3 0), bytes_fit (0x0b ∷ f) g.bytes 6 3 (get_or (0x0b ∷ f) 3 0), tt))

  ac_sub : (f : List ℕ) → Good n (0x0c ∷ f) → AtomFits n (atom_of_frame (0x0c ∷ f))
  unfolding atom_of_frame kind_at kinds field_passes field_fits field_in
  ac_sub f g =
      let l = frame_passes_lem (field_passes Limits no_counts) (0x0c ∷ f) g.limits in
      let r = frame_passes_lem (field_passes Range n) (0x0c ∷ f) g.range in
      let b = are_bytes_lem (0x0c ∷ f) g.bytes in
      (ltb-true _ _ r.0.0, b 2, elements_in (0x0c ∷ f) 5 (get_or (0x0c ∷ f) 4 0) l.0.1.1.1.0 r.1, (multiplicities (0x0c ∷ f) 5 7 (get_or (0x0c ∷ f) 4 0), bytes_fit (0x0c ∷ f) g.bytes 7 3 (get_or (0x0c ∷ f) 4 0), b 3))

  aci_exact : (f : List ℕ) → Good n (0x0d ∷ f) → AtomFits n (atom_of_frame (0x0d ∷ f))
  unfolding atom_of_frame kind_at kinds field_passes field_fits field_in
  aci_exact f g =
      let l = frame_passes_lem (field_passes Limits no_counts) (0x0d ∷ f) g.limits in
      let r = frame_passes_lem (field_passes Range n) (0x0d ∷ f) g.range in
      let b = are_bytes_lem (0x0d ∷ f) g.bytes in
      (ltb-true _ _ r.0.0, b 2, operands_in (0x0d ∷ f) 4 (get_or (0x0d ∷ f) 3 0) l.0.1.1.0 r.1, tt)

  aci_sub : (f : List ℕ) → Good n (0x0e ∷ f) → AtomFits n (atom_of_frame (0x0e ∷ f))
  unfolding atom_of_frame kind_at kinds field_passes field_fits field_in
  aci_sub f g =
      let l = frame_passes_lem (field_passes Limits no_counts) (0x0e ∷ f) g.limits in
      let r = frame_passes_lem (field_passes Range n) (0x0e ∷ f) g.range in
      let b = are_bytes_lem (0x0e ∷ f) g.bytes in
      (ltb-true _ _ r.0.0, b 2, operands_in (0x0e ∷ f) 5 (get_or (0x0e ∷ f) 4 0) l.0.1.1.1.0 r.1, b 3)

  -- by the kind
  by_kind : (b : ℕ) (f : List ℕ) → 1 ≤ b → b ≤ 14 → Good n (b ∷ f) → AtomFits n (atom_of_frame (b ∷ f))
  by_kind zero f h k g = absurd (omega arith)
  by_kind (suc zero) f h k g = plain f g
  by_kind (suc (suc zero)) f h k g = lit f g
  by_kind (suc (suc (suc zero))) f h k g = lit_bind f g
  by_kind (suc (suc (suc (suc zero)))) f h k g = eq f g
  by_kind (suc (suc (suc (suc (suc zero))))) f h k g = eq_global f g
  by_kind (suc (suc (suc (suc (suc (suc zero)))))) f h k g = pred f g
  by_kind (suc (suc (suc (suc (suc (suc (suc zero))))))) f h k g = a_exact f g
  by_kind (suc (suc (suc (suc (suc (suc (suc (suc zero)))))))) f h k g = a_prefix f g
  by_kind (suc (suc (suc (suc (suc (suc (suc (suc (suc zero))))))))) f h k g = a_suffix f g
  by_kind (suc (suc (suc (suc (suc (suc (suc (suc (suc (suc zero)))))))))) f h k g = a_both f g
  by_kind (suc (suc (suc (suc (suc (suc (suc (suc (suc (suc (suc zero))))))))))) f h k g = ac_exact f g
  by_kind (suc (suc (suc (suc (suc (suc (suc (suc (suc (suc (suc (suc zero)))))))))))) f h k g = ac_sub f g
  by_kind (suc (suc (suc (suc (suc (suc (suc (suc (suc (suc (suc (suc (suc zero))))))))))))) f h k g = aci_exact f g
  by_kind (suc (suc (suc (suc (suc (suc (suc (suc (suc (suc (suc (suc (suc (suc zero)))))))))))))) f h k g = aci_sub f g
  by_kind (suc (suc (suc (suc (suc (suc (suc (suc (suc (suc (suc (suc (suc (suc (suc b))))))))))))))) f h k g = absurd (omega arith)

  pub frame_fits : (f : List ℕ) → is_atom (get_or f 0 0) ≡ true → Good n f → AtomFits n (atom_of_frame f)
  frame_fits [] h g = absurd (subst T (sym h) tt)
  frame_fits (b ∷ f) h g = let t = both_hold (leb 1 b) (leb b 14) h in by_kind b f (leb-true 1 b t.0) (leb-true b 14 t.1) g
