-- Operands one at a time: whether one is bound, to mark one, and to go along them. Proved by the operand's tag, and by induction on how many.
use Prim.Native.Nat.{ℕ, suc, ◌+◌, ◌-◌, ◌*◌, ◌<◌, ◌≤◌}
use mathlib.Core.Path.{◌≡◌, refl, sym, ◌∙◌, ap}
use mathlib.Core.Bool.{Bool, true, false, ◌&&◌, not}
use mathlib.Core.List.{List, [], ◌∷◌, ◌++◌, flat_map}
use native.Mathlib.Omega.{arith}
use lib.Dec.{eqb, ltb}
use lib.ListN.{length, get_or}
use borrow.Author.Tests.{ne_eqb, ltb-true, not-true, not-false}
use Rattle.cost.specs.Atoms.{Operand, local, global, wild, local_of}
use Rattle.cost.specs.Bound.{Bound, has, add, has_all}
use Rattle.cost.proofs.Bools.{first, second}
use Rattle.cost.specs.Lowering.{pv_is_bound, pv_mark_bound, mark_all}
use Rattle.cost.specs.Premises.{numbers_below}
use Rattle.cost.specs.QueryAtoms.{operands_from, bytes_from}
use Rattle.cost.specs.Lookups.{operand_at}
use Rattle.cost.proofs.Operands.{local_at}
use Rattle.fields.specs.Fields.{width}
use Rattle.cost.specs.Kinds.{kind_at, fixed_length, items_of}
use Rattle.cost.specs.Frames.{kind_of}
use Rattle.binding.specs.ItemOperands.{item_operands}
use Rattle.binding.proofs.SetLaws.{add_size}

-- ---- one operand

module _ (f : List ℕ) (i t : ℕ) (is : t ≡ get_or f i 0) where
  global_at : (t ≡ 0 → ⊥) → operand_at f i ≡ global (get_or f (i + 1) 0)
  global_at h = rw (← is, ne_eqb t 0 h)

  pub global_bound : (B : Bound) → (t ≡ 0 → ⊥) → not (eqb t 0) ≡ pv_is_bound B (operand_at f i)
  global_bound B h = rw (global_at h, ne_eqb t 0 h)

  pub local_bound : (B : Bound) (v : ℕ) (r : Bool) → t ≡ 0 → v ≡ get_or f (i + 1) 0 → r ≡ has B v → r ≡ pv_is_bound B (operand_at f i)
  local_bound B v r h e g = rw (local_at f i t v is h e) g

  pub global_marked : (B : Bound) → (t ≡ 0 → ⊥) → B ≡ pv_mark_bound B (operand_at f i)
  global_marked B h = rw (global_at h)

  pub local_marked : (B C : Bound) (v : ℕ) → t ≡ 0 → v ≡ get_or f (i + 1) 0 → C ≡ add B v → C ≡ pv_mark_bound B (operand_at f i)
  local_marked B C v h e g = rw (local_at f i t v is h e) g

-- ---- n operands

pub below_both : (n : ℕ) (us vs : List ℕ) → numbers_below n (us ++ vs) ≡ true → (numbers_below n us ≡ true) × (numbers_below n vs ≡ true)
unfolding numbers_below
below_both n [] vs h = (refl, h)
below_both n (u ∷ us) vs h =
    let r = below_both n us vs (second (ltb u n) (numbers_below n (us ++ vs)) h) in
    (rw (first (ltb u n) (numbers_below n (us ++ vs)) h) r.0, r.1)

pub mark_size : (B : Bound) (c : Operand) → numbers_below (length B) (local_of c) ≡ true → length (pv_mark_bound B c) ≡ length B
unfolding numbers_below
mark_size B (local v) h = add_size B v (ltb-true v (length B) (first (ltb v (length B)) true h))
mark_size B (global g) h = refl
mark_size B wild h = refl

-- k operands are marked, and those left give the rest
pub record Marked (f : List ℕ) (i w n : ℕ) (B₀ B : Bound) (k : ℕ) : Type 0 where
  pub few : k ≤ n
  pub place : i + w * k ≤ 255 + 255 * k
  pub size : length B ≡ length B₀
  pub below : numbers_below (length B₀) (flat_map local_of (operands_from f (i + w * k) w (n - k))) ≡ true
  pub is : mark_all B (operands_from f (i + w * k) w (n - k)) ≡ mark_all B₀ (operands_from f i w n)

pub operands_more : (f : List ℕ) (i w n k : ℕ) → k < n → operands_from f (i + w * k) w (n - k) ≡ operand_at f (i + w * k) ∷ operands_from f (i + w * (k + 1)) w (n - (k + 1))
unfolding operands_from
operands_more f i w n k h =
    let e : n - k ≡ suc (n - (k + 1)) = omega arith in
    let g : i + w * k + w ≡ i + w * (k + 1) = omega arith in
    rw (e, ← g)

-- the next operand, and those behind it
pub below_next : (m : ℕ) (f : List ℕ) (i w n k : ℕ) → k < n → numbers_below m (flat_map local_of (operands_from f (i + w * k) w (n - k))) ≡ true
    → (numbers_below m (local_of (operand_at f (i + w * k))) ≡ true) × (numbers_below m (flat_map local_of (operands_from f (i + w * (k + 1)) w (n - (k + 1)))) ≡ true)
unfolding flat_map
below_next m f i w n k h b = below_both m (local_of (operand_at f (i + w * k))) (flat_map local_of (operands_from f (i + w * (k + 1)) w (n - (k + 1)))) (rw (operands_more f i w n k h) at b)

pub marked_none : (f : List ℕ) (i w n : ℕ) (B : Bound) → i < 256 → numbers_below (length B) (flat_map local_of (operands_from f i w n)) ≡ true → Marked f i w n B B 0
marked_none f i w n B l h =
    let e : n - 0 ≡ n = omega arith in
    let g : i + w * 0 ≡ i = omega arith in
    record { few = omega arith; place = omega arith; size = refl; below = rw (e, g) h; is = rw (e, g) }

module _ (f : List ℕ) (i w n : ℕ) (B₀ B : Bound) (k : ℕ) (m : Marked f i w n B₀ B k) where
  pub next_below : k < n → numbers_below (length B) (local_of (operand_at f (i + w * k))) ≡ true
  next_below h = rw m.size (below_next (length B₀) f i w n k h m.below).0

  pub marked_again : (C : Bound) → w < 256 → k < n → C ≡ pv_mark_bound B (operand_at f (i + w * k)) → Marked f i w n B₀ C (k + 1)
  unfolding mark_all
  marked_again C l h e = record {
    few = omega arith;
    place = omega (arith, m.place);
    size = ap length e ∙ mark_size B (operand_at f (i + w * k)) (next_below h) ∙ m.size;
    below = (below_next (length B₀) f i w n k h m.below).1;
    is = rw e (rw (operands_more f i w n k h) at m.is);
  }

  pub marked_all : n ≤ k → B ≡ mark_all B₀ (operands_from f i w n)
  unfolding mark_all operands_from
  marked_all h =
      let e : n - k ≡ 0 = omega arith in
      rw e at m.is

-- ---- n numbers

-- k numbers are in the set, and those left decide
pub record AllIn (f : List ℕ) (i w n : ℕ) (U : Bound) (k : ℕ) : Type 0 where
  pub few : k ≤ n
  pub place : i + w * k ≤ 255 + 255 * k
  pub is : has_all U (bytes_from f (i + w * k) w (n - k)) ≡ has_all U (bytes_from f i w n)

bytes_more : (f : List ℕ) (i w n k : ℕ) → k < n → bytes_from f (i + w * k) w (n - k) ≡ get_or f (i + w * k) 0 ∷ bytes_from f (i + w * (k + 1)) w (n - (k + 1))
unfolding bytes_from
bytes_more f i w n k h =
    let e : n - k ≡ suc (n - (k + 1)) = omega arith in
    let g : i + w * k + w ≡ i + w * (k + 1) = omega arith in
    rw (e, ← g)

pub all_none : (f : List ℕ) (i w n : ℕ) (U : Bound) → i < 256 → AllIn f i w n U 0
all_none f i w n U l =
    let e : n - 0 ≡ n = omega arith in
    let g : i + w * 0 ≡ i = omega arith in
    record { few = omega arith; place = omega arith; is = rw (e, g) }

module _ (f : List ℕ) (i w n : ℕ) (U : Bound) (k : ℕ) (m : AllIn f i w n U k) where
  next_in : (d : ℕ) → k < n → d ≡ get_or f (i + w * k) 0 → has U d && has_all U (bytes_from f (i + w * (k + 1)) w (n - (k + 1))) ≡ has_all U (bytes_from f i w n)
  unfolding has_all
  next_in d h e = rw e (rw (bytes_more f i w n k h) at m.is)

  pub all_again : (d : ℕ) (r : Bool) → w < 256 → k < n → d ≡ get_or f (i + w * k) 0 → r ≡ has U d → not r ≡ false → AllIn f i w n U (k + 1)
  all_again d r l h e g q = record { few = omega arith; place = omega (arith, m.place); is = rw (sym g ∙ not-false r q) at (next_in d h e) }

  pub all_stops : (d : ℕ) (r : Bool) → k < n → d ≡ get_or f (i + w * k) 0 → r ≡ has U d → not r ≡ true → false ≡ has_all U (bytes_from f i w n)
  all_stops d r h e g q = rw (sym g ∙ not-true r q) at (next_in d h e)

  pub all_all : n ≤ k → true ≡ has_all U (bytes_from f i w n)
  unfolding has_all bytes_from
  all_all h =
      let e : n - k ≡ 0 = omega arith in
      rw e at m.is

-- ---- the items of a frame

module _ (f : List ℕ) (k i w n : ℕ) (is : k ≡ get_or f 0 0) (hi : i ≡ fixed_length (kind_at k)) (hw : w ≡ width (kind_at k).item) (hn : n ≡ items_of (kind_of f) f) where
  pub items_are : operands_from f i w n ≡ item_operands f
  items_are = rw (hi, hw, hn, is)

  pub items_below : (m : ℕ) → numbers_below m (flat_map local_of (item_operands f)) ≡ true → numbers_below m (flat_map local_of (operands_from f i w n)) ≡ true
  items_below m h = rw items_are h

  pub items_marked : (B C : Bound) → C ≡ mark_all B (operands_from f i w n) → C ≡ mark_all B (item_operands f)
  items_marked B C h = rw (← items_are) h
