-- The index of a table's rows, read: the slot of those that are asked for, and the chain of its entries. Assumes nothing.
use Prim.Native.Nat.{ℕ, zero, suc, ◌+◌, ◌<◌, ◌≤◌}
use mathlib.Core.Path.{◌≡◌, refl, sym, ◌∙◌, ap}
use mathlib.Core.Bool.{Bool, true, false, ◌||◌}
use mathlib.Core.List.{List, [], ◌∷◌, map}
use native.Mathlib.Omega.{arith}
use lib.ListN.{length, get_or}
use lib.Dec.{eqb}
use borrow.Author.Tests.{ne_eqb, eqb-true, eqb-false}
use Rattle.row_frames.specs.Choose.{pick}
use Rattle.row_frames.specs.FieldValues.{child_path}
use Rattle.row_frames.specs.Sheet.{frame_at}
use Rattle.row_frames.specs.Atoms.{Row, op_of, children, child_at, unset}
use Rattle.row_frames.specs.Equality.{same_class}
use Rattle.row_frames.specs.Running.{among, no_row}
use Rattle.row_frames.proofs.EqualityLaws.{same_eq, eq_same}
use Rattle.row_frames.specs.Rows.{row_of}
use Rattle.row_frames.specs.declared.row.Want.{Want}
use Rattle.row_frames.specs.Wanted.{op_path, has_at, wanted}
use Rattle.buckets.specs.RowIndex.{heads_at, row_slots, row_at, next_at, head_at, chain_from, class_slot, op_slot, in_slot, slot_for, RowsIndexed}

-- ---- the slot of what is asked for

pub head_of : (i : List ℕ) (w : Want) (t n x : ℕ) → t ≡ slot_for w → n ≡ get_or i (heads_at + t) 0 → x ≡ n → x ≡ head_at i (slot_for w)
head_of i w t n x p q e = e ∙ q ∙ rw p

pub slot_below : (w : Want) → slot_for w < row_slots
slot_below w = by (eqb w.path op_path)
  where
    by : (b : Bool) → pick b (op_slot w.class) (class_slot w.class) < row_slots
    by true = omega arith
    by false = omega arith

-- ---- a row that is asked for is in the slot

or_right : (a b : Bool) → b ≡ true → (a || b) ≡ true
or_right true b h = refl
or_right false b h = h

among_map : (f : ℕ → ℕ) (c : ℕ) (ds : List ℕ) → among c ds ≡ true → among (f c) (map f ds) ≡ true
unfolding among
among_map f c [] h = h
among_map f c (d ∷ ds) h = by (same_class d c) refl h (among_map f c ds)
  where
    by : (b : Bool) → same_class d c ≡ b → (b || among c ds) ≡ true → (among c ds ≡ true → among (f c) (map f ds) ≡ true) → (same_class (f d) (f c) || among (f c) (map f ds)) ≡ true
    by true e g r = rw (eq_same (f d) (f c) (ap f (same_eq d c e)))
    by false e g r = or_right (same_class (f d) (f c)) (among (f c) (map f ds)) (r g)

among_at : (c : ℕ) (ds : List ℕ) (p : ℕ) → (c ≡ unset → ⊥) → get_or ds p unset ≡ c → among c ds ≡ true
unfolding among
among_at c [] p h e = absurd (h (sym e))
among_at c (d ∷ ds) zero h e = rw (eq_same d c e)
among_at c (d ∷ ds) (suc p) h e = or_right (same_class d c) (among c ds) (among_at c ds p h e)

in_class : (r : Row) (c : ℕ) → among c (children r) ≡ true → in_slot (class_slot c) r ≡ true
unfolding among
in_class r c h = or_right (same_class (op_slot (op_of r)) (class_slot c)) (among (class_slot c) (map class_slot (children r))) (among_map class_slot c (children r) h)

-- THE LAW
pub wanted_slot : (w : Want) (r : Row) → wanted w r ≡ true → in_slot (slot_for w) r ≡ true
unfolding wanted among
wanted_slot w r h = by (eqb w.path op_path) (eqb w.path child_path) h
  where
    at : (b : Bool) → eqb w.class unset ≡ b → pick b false (same_class (child_at r w.place) w.class) ≡ true → among w.class (children r) ≡ true
    at true e g = let z : true ≡ false = sym g in cc
    at false e g = among_at w.class (children r) w.place (eqb-false w.class unset e) (same_eq (child_at r w.place) w.class g)

    by : (a b : Bool) → pick a (eqb (op_of r) w.class) (pick b (has_at w.class w.place r) (among w.class (children r))) ≡ true → in_slot (pick a (op_slot w.class) (class_slot w.class)) r ≡ true
    by true b g = rw (eq_same (op_slot (op_of r)) (op_slot w.class) (ap op_slot (eqb-true (op_of r) w.class g)))
    by false true g = in_class r w.class (at (eqb w.class unset) refl g)
    by false false g = in_class r w.class g

-- ---- the chain of a slot

module _ (i : List ℕ) (falling : (e : ℕ) → 0 < e → next_at i e < e) where
  -- no more than e entries are looked at from entry e on
  pub enough : (n m e : ℕ) → e ≤ n → e ≤ m → chain_from i n e ≡ chain_from i m e
  unfolding chain_from
  enough zero zero e p q = refl
  enough zero (suc m) zero p q = refl
  enough zero (suc m) (suc e) p q = absurd (omega arith)
  enough (suc n) zero zero p q = refl
  enough (suc n) zero (suc e) p q = absurd (omega arith)
  enough (suc n) (suc m) zero p q = refl
  enough (suc n) (suc m) (suc e) p q =
      let h = falling (suc e) (omega arith) in
      rw (enough n m (next_at i (suc e)) (omega arith) (omega arith))

  pub chain_more : (e : ℕ) → (e ≡ 0 → ⊥) → chain_from i e e ≡ row_at i e ∷ chain_from i (next_at i e) (next_at i e)
  unfolding chain_from
  chain_more zero z = absurd (z refl)
  chain_more (suc e) z =
      let h = falling (suc e) (omega arith) in
      rw (ne_eqb (suc e) 0 z, enough e (next_at i (suc e)) (next_at i (suc e)) (omega arith) (omega arith))

pub chain_none : (i : List ℕ) (e : ℕ) → e ≡ 0 → chain_from i e e ≡ []
unfolding chain_from
chain_none i e h = rw h

-- ---- the frame of a row

pub frame_of_lem : (rs : List Row) (s i : List ℕ) → RowsIndexed rs s i → (j : ℕ) → j < length rs → (a n p : ℕ) → a ≡ j → n ≡ get_or i (22400 + a) 0 → p ≡ n → (f : List ℕ) → f ≡ frame_at s p → row_of f ≡ get_or rs j no_row
frame_of_lem rs s i x j h a n p u v q f e = rw (e, q, v, u) (x.frames j h)
