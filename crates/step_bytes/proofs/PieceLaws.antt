-- Operands as they are written, what one becomes, and a Join by its operator. Proved by the operand, and byte by byte.
use Prim.Native.Nat.{ℕ, ◌+◌, ◌<◌}
use mathlib.Core.Path.{◌≡◌, refl, sym, ◌∙◌, subst}
use mathlib.Core.Bool.{Bool, true, false}
use mathlib.Core.List.{List, [], ◌∷◌, map, flat_map}
use native.Mathlib.Omega.{arith}
use lib.Dec.{T, eqb}
use lib.ListN.{get_or}
use Rattle.hexadecimal.specs.Choose.{pick}
use Rattle.output.specs.Fields.{width}
use Rattle.binding.specs.Kinds.{kinds, kind_at, fixed_length, items_of}
use Rattle.output.specs.Frames.{kind_of}
use Rattle.output.specs.Atoms.{Operand, local, global, wild, tame, ByOp, ByRepr, Join}
use Rattle.binding.specs.Bound.{Bound}
use Rattle.binding.specs.Lowering.{pv_is_bound, read_child}
use Rattle.binding.specs.QueryAtoms.{operands_from}
use Rattle.output.specs.Lookups.{operand_at}
use Rattle.binding.proofs.Tame.{operand_tame}
use Rattle.output.specs.StepFrames.{tag_of, index_of, lookup_bytes, frame_of}
use Rattle.binding.specs.ItemOperands.{item_operands}
use Rattle.binding.proofs.OperandLaws.{items_are}
use Rattle.step_bytes.specs.Pieces.{lookup_for}
use Rattle.step_bytes.specs.Begun.{Begins}

-- ---- where the operands of a frame stand

-- i, w and n as the table of kinds has them for f
pub record Placed (f : List ℕ) (kind i w n : ℕ) : Type 0 where
  pub is : kind ≡ get_or f 0 0
  pub first : i ≡ fixed_length (kind_at kind)
  pub wide : w ≡ width (kind_at kind).item
  pub many : n ≡ items_of (kind_of f) f
  pub near : i < 16
  pub narrow : w < 16
  pub few : n < 256

pub placed_items : (f : List ℕ) (kind i w n : ℕ) → Placed f kind i w n → operands_from f i w n ≡ item_operands f
placed_items f kind i w n z = items_are f kind i w n z.is z.first z.wide z.many

-- ---- one operand

pub index_at : (f : List ℕ) (j : ℕ) → get_or f (j + 1) 0 ≡ index_of (operand_at f j)
index_at f j = by (eqb (get_or f j 0) 0)
  where
    by : (t : Bool) → get_or f (j + 1) 0 ≡ index_of (pick t (local (get_or f (j + 1) 0)) (global (get_or f (j + 1) 0)))
    by true = refl
    by false = refl

module _ (f : List ℕ) (j tag index : ℕ) (ht : tag ≡ tag_of (operand_at f j)) (hi : index ≡ get_or f (j + 1) 0) where
  pub lookup_child : (plain : Bool) (p : ℕ) → plain ≡ true → 1 ∷ tag ∷ index ∷ p ∷ [] ≡ lookup_bytes (lookup_for plain (operand_at f j) p)
  lookup_child plain p h = rw (h, ht, hi ∙ index_at f j)

  pub lookup_element : (plain : Bool) (p : ℕ) → plain ≡ false → 3 ∷ tag ∷ index ∷ 0 ∷ [] ≡ lookup_bytes (lookup_for plain (operand_at f j) p)
  lookup_element plain p h = rw (h, ht, hi ∙ index_at f j)

pub item_bytes_lem : (f : List ℕ) (j tag index m : ℕ) → tag ≡ tag_of (operand_at f j) → index ≡ get_or f (j + 1) 0 → m ≡ get_or f (j + 2) 0 → tag ∷ index ∷ m ∷ [] ≡ tag_of (operand_at f j) ∷ index_of (operand_at f j) ∷ get_or f (j + 2) 0 ∷ []
item_bytes_lem f j tag index m ht hi hm = rw (ht, hi ∙ index_at f j, hm)

-- ---- a child

check_begins : (c : Operand) → tame c ≡ true → (n i tag index : ℕ) → tag ≡ tag_of c → index ≡ index_of c → Begins (0x42 ∷ n ∷ i ∷ tag ∷ index ∷ []) (map frame_of (read_child n i true c))
unfolding frame_of kind_at kinds
check_begins (local v) h n i tag index p q = record { fits = omega arith; few = omega arith; is = rw (p, q) }
check_begins (global g) h n i tag index p q = record { fits = omega arith; few = omega arith; is = rw (p, q) }
check_begins wild h n i tag index p q = absurd (subst T (sym h) tt)

extract_begins : (c : Operand) → tame c ≡ true → (B : Bound) (n i index : ℕ) → pv_is_bound B c ≡ false → index ≡ index_of c → Begins (0x41 ∷ index ∷ n ∷ i ∷ 0 ∷ []) (map frame_of (read_child n i false c))
unfolding frame_of kind_at kinds
extract_begins (local v) t B n i index h q = record { fits = omega arith; few = omega arith; is = rw q }
extract_begins (global g) t B n i index h q = absurd (subst T h tt)
extract_begins wild t B n i index h q = absurd (subst T (sym t) tt)

module _ (f : List ℕ) (B : Bound) (j : ℕ) (t : Bool) (is : t ≡ pv_is_bound B (operand_at f j)) (n index : ℕ) (hn : n ≡ get_or f 1 0) (hi : index ≡ get_or f (j + 1) 0) (i : ℕ) where
  pub child_checked : (tag : ℕ) → t ≡ true → tag ≡ tag_of (operand_at f j) → Begins (0x42 ∷ n ∷ i ∷ tag ∷ index ∷ []) (map frame_of (read_child (get_or f 1 0) i (pv_is_bound B (operand_at f j)) (operand_at f j)))
  child_checked tag h p = rw (sym is ∙ h, ← hn) (check_begins (operand_at f j) (operand_tame f j) n i tag index p (hi ∙ index_at f j))

  pub child_extracted : t ≡ false → Begins (0x41 ∷ index ∷ n ∷ i ∷ 0 ∷ []) (map frame_of (read_child (get_or f 1 0) i (pv_is_bound B (operand_at f j)) (operand_at f j)))
  child_extracted h = rw (sym is ∙ h, ← hn) (extract_begins (operand_at f j) (operand_tame f j) B n i index (sym is ∙ h) (hi ∙ index_at f j))

-- ---- a Join

module _ (f : List ℕ) (n op : ℕ) (hn : n ≡ get_or f 1 0) (ho : op ≡ get_or f 2 0) where
  pub class_bytes_lem : (k : ℕ) → 0x40 ∷ n ∷ k ∷ 2 ∷ 2 ∷ n ∷ 0 ∷ 0 ∷ 0 ∷ op ∷ 0 ∷ 0 ∷ [] ≡ frame_of (Join (get_or f 1 0) k (ByRepr (get_or f 1 0) ∷ ByOp (get_or f 2 0) ∷ []))
  unfolding frame_of flat_map
  class_bytes_lem k = rw (hn, ho)

  pub op_bytes : (k m : ℕ) → 0x40 ∷ n ∷ k ∷ m ∷ 0 ∷ op ∷ 0 ∷ 0 ∷ [] ≡ 0x40 ∷ get_or f 1 0 ∷ k ∷ m ∷ 0 ∷ get_or f 2 0 ∷ 0 ∷ 0 ∷ []
  op_bytes k m = rw (hn, ho)
