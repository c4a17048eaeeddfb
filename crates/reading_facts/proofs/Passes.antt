-- A frame that passes a test: each of its fields passes it, and each of its items. Assumes nothing.
use Prim.Native.Nat.{ℕ, zero, suc, ◌+◌, ◌*◌, ◌<◌}
use mathlib.Core.Path.{◌≡◌}
use mathlib.Core.Bool.{Bool, true}
use mathlib.Core.List.{List, [], ◌∷◌}
use native.Mathlib.Omega.{arith}
use native.Mathlib.Nat.{add-zero, add_assoc, mul-suc}
use lib.ListN.{length, get_or, take, replicate}
use Rattle.reading.proofs.ChooseLaws.{both_hold}
use Rattle.reading.specs.Fields.{width}
use Rattle.reading.specs.Kinds.{none, widths, fixed_length, items_of}
use Rattle.reading.specs.Frames.{kind_of, pass_all, frame_passes}
use Rattle.reading.specs.Field.{Field}

module _ (P : Field → List ℕ → ℕ → Bool) (f : List ℕ) where
  pub field_passes_lem : (xs : List Field) (i : ℕ) → pass_all P xs f i ≡ true → (j : ℕ) → j < length xs → P (get_or xs j none) f (i + widths (take j xs)) ≡ true
  unfolding pass_all
  field_passes_lem [] i p j h = absurd (omega arith)
  field_passes_lem (x ∷ xs) i p zero h = rw (add-zero i) (both_hold (P x f i) _ p).0
  field_passes_lem (x ∷ xs) i p (suc j) h =
      let q = field_passes_lem xs (i + width x) (both_hold (P x f i) _ p).1 j (omega arith) in
      rw (add_assoc i (width x) (widths (take j xs))) at q

  pub item_passes : (n : ℕ) (x : Field) (i : ℕ) → pass_all P (replicate n x) f i ≡ true → (j : ℕ) → j < n → P x f (i + width x * j) ≡ true
  unfolding pass_all
  item_passes zero x i p j h = absurd (omega arith)
  item_passes (suc n) x i p zero h = let z : i + width x * zero ≡ i = omega arith in rw z (both_hold (P x f i) _ p).0
  item_passes (suc n) x i p (suc j) h =
      let z : i + width x * suc j ≡ i + width x + width x * j = omega (arith, mul-suc (width x) j) in
      rw z (item_passes n x (i + width x) (both_hold (P x f i) _ p).1 j (omega arith))

  module _ (p : frame_passes P f ≡ true) where
    -- the j-th field of a frame, and its j-th item
    pub frame_field : (j : ℕ) → j < length (kind_of f).fields → P (get_or (kind_of f).fields j none) f (1 + widths (take j (kind_of f).fields)) ≡ true
    frame_field j h = field_passes_lem (kind_of f).fields 1 (both_hold (pass_all P (kind_of f).fields f 1) _ p).0 j h

    pub frame_item : (j : ℕ) → j < items_of (kind_of f) f → P (kind_of f).item f (fixed_length (kind_of f) + width (kind_of f).item * j) ≡ true
    frame_item j h = item_passes (items_of (kind_of f) f) (kind_of f).item (fixed_length (kind_of f)) (both_hold (pass_all P (kind_of f).fields f 1) _ p).1 j h
