-- The collections: what the steps 47, 48 and 49 have as items, and the fixed part of each kind's step. Proved item by item, and kind by kind.
use Prim.Native.Nat.{ℕ, zero, suc, ◌+◌, ◌<◌, ◌≤◌}
use mathlib.Core.Path.{◌≡◌, refl, ◌∙◌}
use mathlib.Core.List.{List, [], ◌∷◌, flat_map}
use native.Mathlib.Omega.{arith}
use lib.ListN.{length, get_or}
use Rattle.binding.specs.Kinds.{kinds, kind_at}
use Rattle.binding.specs.QueryAtoms.{operands_from, bytes_from, atom_of_frame}
use Rattle.binding.proofs.Operands.{operands_length}
use Rattle.output.specs.StepFrames.{operand_bytes, elements_of, element_bytes, frame_of}
use Rattle.output.proofs.StepsPass.{elements_length}
use Rattle.step_bytes.specs.Pieces.{items_bytes}
use Rattle.step_bytes.specs.Begun.{Opens}

-- ---- the items

items_alone : (f : List ℕ) (i n : ℕ) → items_bytes 2 f i n ≡ flat_map operand_bytes (operands_from f i 2 n)
unfolding items_bytes operands_from flat_map
items_alone f i zero = refl
items_alone f i (suc n) = rw (items_alone f (i + 2) n)

elements_number : (f : List ℕ) (i j n : ℕ) → length (elements_of (operands_from f i 3 n) (bytes_from f j 3 n)) ≡ n
elements_number f i j n = elements_length (operands_from f i 3 n) (bytes_from f j 3 n) ∙ operands_length f i 3 n

items_counted : (f : List ℕ) (i n : ℕ) → items_bytes 3 f i n ≡ flat_map element_bytes (elements_of (operands_from f i 3 n) (bytes_from f (i + 2) 3 n))
unfolding items_bytes operands_from bytes_from flat_map
items_counted f i zero = refl
items_counted f i (suc n) = let e : i + 2 + 3 ≡ i + 3 + 2 = omega arith in rw (e, items_counted f (i + 3) n)

-- ---- the step of each kind

-- a number from j on that is not j
above : (j k : ℕ) → j ≤ k → (k ≡ j → ⊥) → j + 1 ≤ k
above j k l n = omega arith

only : (j k : ℕ) → j ≤ k → k < j + 1 → k ≡ j
only j k l m = omega arith

module _ (f : List ℕ) (k : ℕ) (is : k ≡ get_or f 0 0) (n x y : ℕ) (hn : n ≡ get_or f 1 0) (hx : x ≡ get_or f 3 0) (hy : y ≡ get_or f 4 0) where
  pub a_exact : k ≡ 7 → Opens f (0x47 ∷ n ∷ 0 ∷ 0 ∷ 0 ∷ x ∷ [])
  unfolding atom_of_frame frame_of kind_at kinds
  a_exact h = record { fits = omega arith; few = omega arith; narrow = omega arith; is = rw (← is, h, hn, hx, operands_length f 4 2 (get_or f 3 0), items_alone f 4 (get_or f 3 0)) }

  pub a_prefix : k ≡ 8 → Opens f (0x47 ∷ n ∷ 1 ∷ x ∷ 0 ∷ y ∷ [])
  unfolding atom_of_frame frame_of kind_at kinds
  a_prefix h = record { fits = omega arith; few = omega arith; narrow = omega arith; is = rw (← is, h, hn, hx, hy, operands_length f 5 2 (get_or f 4 0), items_alone f 5 (get_or f 4 0)) }

  pub a_suffix : k ≡ 9 → Opens f (0x47 ∷ n ∷ 2 ∷ 0 ∷ x ∷ y ∷ [])
  unfolding atom_of_frame frame_of kind_at kinds
  a_suffix h = record { fits = omega arith; few = omega arith; narrow = omega arith; is = rw (← is, h, hn, hx, hy, operands_length f 5 2 (get_or f 4 0), items_alone f 5 (get_or f 4 0)) }

  pub a_both : (z : ℕ) → z ≡ get_or f 5 0 → k ≡ 10 → Opens f (0x47 ∷ n ∷ 3 ∷ x ∷ y ∷ z ∷ [])
  unfolding atom_of_frame frame_of kind_at kinds
  a_both z hz h = record { fits = omega arith; few = omega arith; narrow = omega arith; is = rw (← is, h, hn, hx, hy, hz, operands_length f 6 2 (get_or f 5 0), items_alone f 6 (get_or f 5 0)) }

  pub ac_exact : k ≡ 11 → Opens f (0x48 ∷ n ∷ 0 ∷ 0 ∷ 0 ∷ x ∷ [])
  unfolding atom_of_frame frame_of kind_at kinds
  ac_exact h = record { fits = omega arith; few = omega arith; narrow = omega arith; is = rw (← is, h, hn, hx, elements_number f 4 6 (get_or f 3 0), items_counted f 4 (get_or f 3 0)) }

  pub ac_sub : k ≡ 12 → Opens f (0x48 ∷ n ∷ 0 ∷ 1 ∷ x ∷ y ∷ [])
  unfolding atom_of_frame frame_of kind_at kinds
  ac_sub h = record { fits = omega arith; few = omega arith; narrow = omega arith; is = rw (← is, h, hn, hx, hy, elements_number f 5 7 (get_or f 4 0), items_counted f 5 (get_or f 4 0)) }

  pub aci_exact : k ≡ 13 → Opens f (0x49 ∷ n ∷ 0 ∷ 0 ∷ x ∷ 0 ∷ [])
  unfolding atom_of_frame frame_of kind_at kinds
  aci_exact h = record { fits = omega arith; few = omega arith; narrow = omega arith; is = rw (← is, h, hn, hx, operands_length f 4 2 (get_or f 3 0), items_alone f 4 (get_or f 3 0)) }

  pub aci_sub : 6 < get_or f 0 0 → get_or f 0 0 < 15 → (k ≡ 7 → ⊥) → (k ≡ 8 → ⊥) → (k ≡ 9 → ⊥) → (k ≡ 10 → ⊥) → (k ≡ 11 → ⊥) → (k ≡ 12 → ⊥) → (k ≡ 13 → ⊥) → Opens f (0x49 ∷ n ∷ 1 ∷ x ∷ y ∷ 0 ∷ [])
  unfolding atom_of_frame frame_of kind_at kinds
  aci_sub l m n7 n8 n9 n10 n11 n12 n13 =
      let h : k ≡ 14 = only 14 k (above 13 k (above 12 k (above 11 k (above 10 k (above 9 k (above 8 k (above 7 k (rw is l) n7) n8) n9) n10) n11) n12) n13) (rw is m) in
      record { fits = omega arith; few = omega arith; narrow = omega arith; is = rw (← is, h, hn, hx, hy, operands_length f 5 2 (get_or f 4 0), items_alone f 5 (get_or f 4 0)) }
