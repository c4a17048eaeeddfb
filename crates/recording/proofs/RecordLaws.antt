-- What an atom's kind says of the emitters it gives. Proved kind by kind.
use Prim.Native.Nat.{ℕ, ◌<◌, ◌≤◌}
use mathlib.Core.Path.{◌≡◌, refl, sym, subst, ◌∙◌}
use mathlib.Core.Bool.{Bool, true, false}
use mathlib.Core.List.{List, ◌∷◌}
use lib.Dec.{T, eqb, ltb}
use native.Mathlib.Omega.{arith}
use borrow.Author.Tests.{eqb-true, eqb-false}
use lib.ListN.{length, get_or}
use Rattle.binding.specs.Faults.{is_atom}
use Rattle.kinds.specs.Kinds.{kinds, kind_at}
use Rattle.binding.specs.Atoms.{Operand}
use Rattle.binding.specs.Premises.{numbers_below}
use Rattle.binding.specs.QueryAtoms.{operands_from, atom_of_frame}
use Rattle.binding.specs.Emitters.{Emitters, decode, from, emitter_of, set_emitter, set_elements, copy_emitter, record_atom}
use Rattle.passes.specs.AtomLines.{AtomLine, scans_kind}
use Rattle.binding.specs.ItemOperands.{item_operands}
use Rattle.passes.proofs.AtomLaws.{by_kind, scanning}
use Rattle.recording.specs.Items.{set_items}
use Rattle.recording.proofs.ItemLaws.{children_are, elements_are}

-- an atom that scans gives its node and its items
record_kind : (em : Emitters) (i : ℕ) (f : List ℕ) → is_atom (get_or f 0 0) ≡ true → scans_kind (get_or f 0 0) ≡ true
    → set_items (set_emitter em (get_or f 1 0) (from i 0 0)) i (ltb 6 (get_or f 0 0)) 0 (item_operands f) ≡ record_atom em i (atom_of_frame f)
unfolding atom_of_frame kinds kind_at operands_from set_items record_atom
record_kind em i = by_kind (λ f. scans_kind (get_or f 0 0) ≡ true → set_items (set_emitter em (get_or f 1 0) (from i 0 0)) i (ltb 6 (get_or f 0 0)) 0 (item_operands f) ≡ record_atom em i (atom_of_frame f)) (λ r t. children_are (item_operands (0x01 ∷ r)) (set_emitter em (get_or r 0 0) (from i 0 0)) i 0) (λ r t. refl) (λ r t. refl) (λ r t. absurd (subst T (sym t) tt)) (λ r t. absurd (subst T (sym t) tt)) (λ r t. absurd (subst T (sym t) tt)) (λ r t. elements 0x07 r) (λ r t. elements 0x08 r) (λ r t. elements 0x09 r) (λ r t. elements 0x0a r) (λ r t. elements 0x0b r) (λ r t. elements 0x0c r) (λ r t. elements 0x0d r) (λ r t. elements 0x0e r)
  where
    elements : (k : ℕ) (r : List ℕ) → set_items (set_emitter em (get_or r 0 0) (from i 0 0)) i true 0 (item_operands (k ∷ r)) ≡ set_elements (set_emitter em (get_or r 0 0) (from i 0 0)) i (item_operands (k ∷ r))
    elements k r = elements_are (item_operands (k ∷ r)) (set_emitter em (get_or r 0 0) (from i 0 0)) i 0

-- ---- a node and its items

pub still_below : (l o vs : List ℕ) → length o ≡ length l → numbers_below (length l) vs ≡ true → numbers_below (length o) vs ≡ true
still_below l o vs s h = rw s h

pub node_and_items : (em m o : Emitters) (i a e : ℕ) (t : Bool) (cs : List Operand) → decode e ≡ from i 0 0 → m ≡ set_emitter em a (decode e) → o ≡ set_items m i t 0 cs → o ≡ set_items (set_emitter em a (from i 0 0)) i t 0 cs
node_and_items em m o i a e t cs g h j = rw (← g, ← h) j

-- ---- a line by its kind

module _ (f : List ℕ) (k : ℕ) (is : k ≡ get_or f 0 0) where
  pub record_pred : (em : Emitters) (i : ℕ) → k ≡ 6 → em ≡ record_atom em i (atom_of_frame f)
  unfolding atom_of_frame record_atom
  record_pred em i h = rw (← is, h)

  pub record_global : (em : Emitters) (i : ℕ) → k ≡ 5 → em ≡ record_atom em i (atom_of_frame f)
  unfolding atom_of_frame record_atom
  record_global em i h = rw (← is, h)

  -- neither gives one
  pub record_none : (em : Emitters) (i : ℕ) → 5 ≤ k → k < 7 → em ≡ record_atom em i (atom_of_frame f)
  record_none em i l h = by (eqb k 5) refl
    where
      by : (t : Bool) → eqb k 5 ≡ t → em ≡ record_atom em i (atom_of_frame f)
      by true e = record_global em i (eqb-true k 5 e)
      by false e = record_pred em i (omega (arith, eqb-false k 5 e))

  pub record_eq : (em o : Emitters) (i a b : ℕ) → k ≡ 4 → a ≡ get_or f 1 0 → b ≡ get_or f 2 0 → o ≡ copy_emitter (emitter_of em a) (emitter_of em b) em a b → o ≡ record_atom em i (atom_of_frame f)
  unfolding atom_of_frame record_atom
  record_eq em o i a b h p q e = rw (← is, h, ← p, ← q) e

  module _ (line : AtomLine f) (p : k ≡ 6 → ⊥) (q : k ≡ 4 → ⊥) (r : k ≡ 5 → ⊥) where
    pub record_scan : (em o : Emitters) (i a : ℕ) → a ≡ get_or f 1 0 → o ≡ set_items (set_emitter em a (from i 0 0)) i (ltb 6 (get_or f 0 0)) 0 (item_operands f) → o ≡ record_atom em i (atom_of_frame f)
    record_scan em o i a n h = h ∙ rw n (record_kind em i f line.kind (scanning f k is line p q r))
