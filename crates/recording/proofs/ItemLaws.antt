-- The items of an atom, one at a time. Proved by induction on how many, and by what an operand sets.
use Prim.Native.Nat.{ℕ, suc, ◌+◌, ◌-◌, ◌*◌, ◌<◌, ◌≤◌}
use mathlib.Core.Path.{◌≡◌, refl, ◌∙◌}
use mathlib.Core.Bool.{Bool, true, false}
use mathlib.Core.List.{List, [], ◌∷◌, map, flat_map}
use native.Mathlib.Omega.{arith}
use native.Mathlib.Numerals.{add-one}
use lib.Dec.{ltb}
use lib.ListN.{length, get_or}
use Rattle.fields.specs.Fields.{width}
use Rattle.kinds.specs.Kinds.{kind_at, fixed_length, items_of}
use Rattle.frames.specs.Frames.{kind_of}
use Rattle.binding.specs.Atoms.{Operand, local_of}
use Rattle.binding.specs.Premises.{numbers_below}
use Rattle.binding.specs.QueryAtoms.{operands_from}
use Rattle.binding.specs.Lookups.{operand_at}
use Rattle.binding.specs.Emitters.{Emitters, decode, set_operand, set_children, set_elements}
use Rattle.binding.specs.ItemOperands.{item_operands}
use Rattle.binding.proofs.OperandLaws.{operands_more, below_next, items_are}
use Rattle.recording.specs.Items.{item_emitter, set_items}

-- children and elements are items
pub children_are : (cs : List Operand) (em : Emitters) (a p : ℕ) → set_items em a false p cs ≡ set_children em a p cs
unfolding set_items set_children
children_are [] em a p = refl
children_are (c ∷ cs) em a p = children_are cs (set_operand em c (item_emitter a false p)) a (suc p)

pub elements_are : (cs : List Operand) (em : Emitters) (a p : ℕ) → set_items em a true p cs ≡ set_elements em a cs
unfolding set_items set_elements
elements_are [] em a p = refl
elements_are (c ∷ cs) em a p = elements_are cs (set_operand em c (item_emitter a true p)) a (suc p)

-- the number of an item's emitter
pub an_element : (a p e : ℕ) (t : Bool) → t ≡ true → decode e ≡ item_emitter a true p → decode e ≡ item_emitter a t p
an_element a p e t h g = rw h g

pub a_child : (a p e : ℕ) (t : Bool) → t ≡ false → decode e ≡ item_emitter a false p → decode e ≡ item_emitter a t p
a_child a p e t h g = rw h g

-- k items are set, and those left give the rest
pub record Setting (f : List ℕ) (i w n a : ℕ) (t : Bool) (l₀ l : List ℕ) (k : ℕ) : Type 0 where
  pub few : k ≤ n
  pub place : i + w * k ≤ 255 + 255 * k
  pub size : length l ≡ length l₀
  pub below : numbers_below (length l₀) (flat_map local_of (operands_from f (i + w * k) w (n - k))) ≡ true
  pub is : set_items (map decode l) a t k (operands_from f (i + w * k) w (n - k)) ≡ set_items (map decode l₀) a t 0 (operands_from f i w n)

pub setting_none : (f : List ℕ) (i w n a : ℕ) (t : Bool) (l : List ℕ) → i < 256 → numbers_below (length l) (flat_map local_of (operands_from f i w n)) ≡ true → Setting f i w n a t l l 0
setting_none f i w n a t l b h =
    let e : n - 0 ≡ n = omega arith in
    let g : i + w * 0 ≡ i = omega arith in
    record { few = omega arith; place = omega arith; size = refl; below = rw (e, g) h; is = rw (e, g) }

module _ (f : List ℕ) (i w n a : ℕ) (t : Bool) (l₀ l : List ℕ) (k : ℕ) (m : Setting f i w n a t l₀ l k) where
  pub next_below : k < n → numbers_below (length l) (local_of (operand_at f (i + w * k))) ≡ true
  next_below h = rw m.size (below_next (length l₀) f i w n k h m.below).0

  pub setting_again : (o : List ℕ) (p e : ℕ) → w < 256 → k < n → p ≡ k → decode e ≡ item_emitter a t p → length o ≡ length l → map decode o ≡ set_operand (map decode l) (operand_at f (i + w * k)) (decode e) → Setting f i w n a t l₀ o (k + 1)
  unfolding set_items
  setting_again o p e b h q g s d = record {
    few = omega arith;
    place = omega (arith, m.place);
    size = s ∙ m.size;
    below = (below_next (length l₀) f i w n k h m.below).1;
    is = rw (d, g, q, add-one k) (rw (operands_more f i w n k h, add-one k) at m.is);
  }

  pub setting_all : n ≤ k → map decode l ≡ set_items (map decode l₀) a t 0 (operands_from f i w n)
  unfolding set_items operands_from
  setting_all h =
      let e : n - k ≡ 0 = omega arith in
      rw e at m.is

-- ---- the items of a frame

module _ (f : List ℕ) (k i w n : ℕ) (is : k ≡ get_or f 0 0) (hi : i ≡ fixed_length (kind_at k)) (hw : w ≡ width (kind_at k).item) (hn : n ≡ items_of (kind_of f) f) where
  pub items_set : (l o : List ℕ) (a : ℕ) → map decode o ≡ set_items (map decode l) a (ltb 6 k) 0 (operands_from f i w n) → map decode o ≡ set_items (map decode l) a (ltb 6 (get_or f 0 0)) 0 (item_operands f)
  items_set l o a h = rw (← items_are f k i w n is hi hw hn, ← is) h
