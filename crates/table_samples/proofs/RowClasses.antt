-- The classes of a row at a site, put into an array. Proved from the row's frame.
use Prim.Native.Nat.{ℕ, zero, suc, ◌+◌, ◌-◌, ◌*◌, ◌<◌, ◌≤◌}
use mathlib.Core.Path.{◌≡◌, refl, ◌∙◌, ap}
use mathlib.Core.Bool.{Bool, true, false, ◌||◌}
use mathlib.Core.List.{List, [], ◌∷◌, ◌++◌}
use native.Mathlib.Omega.{arith}
use native.Mathlib.Numerals.{add-one}
use lib.ListN.{length, get_or, set, take, length-set}
use lib.Seq.{take-suc-set}
use lib.Dec.{eqb}
use borrow.Author.Tests.{ne_eqb}
use Rattle.std.specs.List.{list_any}
use Rattle.hexadecimal.specs.Choose.{pick}
use Rattle.hexadecimal.specs.Digits.{short_at, word_at}
use Rattle.buckets.specs.Atoms.{Row, Node, Literal, class_of, children}
use Rattle.buckets.specs.Equality.{same_class}
use Rattle.buckets.specs.Running.{among, no_row}
use Rattle.buckets.specs.Items.{items_at}
use Rattle.buckets.specs.Rows.{row_of}
use Rattle.buckets.proofs.ItemsLaws.{items_more, items_none}
use Rattle.buckets.specs.Wanted.{count_of}
use Rattle.buckets.proofs.RowLaws.{row_children}
use Rattle.table_samples.specs.TableSamples.{child_of, distinct_from, table_classes}
use Rattle.table_samples.specs.Listed.{Listed}

-- ---- one class, or none

pub one_listed : (K : List ℕ) (c : ℕ) → 256 ≤ length K → Listed (set K 0 c) 1 255 (c ∷ [])
one_listed K c h = record { is = take-suc-set K 0 c (omega arith); few = omega arith }

none_listed : (K : List ℕ) → Listed K 0 255 []
none_listed K = record { is = refl; few = omega arith }

child_none : (f : List ℕ) (i n p : ℕ) → n ≤ p → child_of (items_at short_at 2 f i n) p ≡ []
unfolding items_at
child_none f i zero p h = refl
child_none f i (suc n) zero h = absurd (omega arith)
child_none f i (suc n) (suc p) h = child_none f (i + 2) n p (omega arith)

child_some : (f : List ℕ) (i n p : ℕ) → p < n → child_of (items_at short_at 2 f i n) p ≡ short_at f (i + 2 * p) ∷ []
unfolding items_at
child_some f i zero p h = absurd (omega arith)
child_some f i (suc n) zero h = let e : i ≡ i + 2 * 0 = omega arith in ap (λ (j : ℕ). short_at f j ∷ []) e
child_some f i (suc n) (suc p) h = let e : i + 2 + 2 * p ≡ i + 2 * suc p = omega arith in child_some f (i + 2) n p (omega arith) ∙ ap (λ (j : ℕ). short_at f j ∷ []) e

module _ (f K : List ℕ) (position p n : ℕ) (at : p ≡ position) (count : (n ≡ count_of f) × (n < 256)) where
  pub class_none : n ≤ p → Listed K 0 255 (child_of (children (row_of f)) position)
  class_none h = rw (row_children f, ← count.0, ← at, child_none f 5 n p h) (none_listed K)

  pub class_some : p < n → 256 ≤ length K → (c : ℕ) → c ≡ short_at f (5 + 2 * p) → Listed (set K 0 c) 1 255 (child_of (children (row_of f)) position)
  class_some h l c e = rw (row_children f, ← count.0, ← at, child_some f 5 n p h, ← e) (one_listed K c l)

-- ---- a class among those seen

among_any : (c : ℕ) (ds : List ℕ) → list_any (λ d. eqb d c) ds ≡ among c ds
unfolding among same_class
among_any c [] = refl
among_any c (d ∷ ds) = ap (λ b. eqb d c || b) (among_any c ds)

-- ---- the distinct classes, one child after the other

pub record Seeing (f : List ℕ) (n : ℕ) (K₀ K : List ℕ) (m j : ℕ) : Type 0 where
  pub most : n < 256
  pub low : j ≤ n
  pub few : m ≤ j
  pub size : length K ≡ length K₀
  pub is : distinct_from (take m K) (items_at short_at 2 f (5 + 2 * j) (n - j)) ≡ distinct_from [] (children (row_of f))

pub seeing_first : (f K : List ℕ) (n : ℕ) → (n ≡ count_of f) × (n < 256) → Seeing f n K K 0 0
seeing_first f K n e = let b : n - 0 ≡ n = omega arith in record { most = e.1; low = omega arith; few = omega arith; size = refl; is = rw (row_children f, ← e.0, b) }

module _ (f : List ℕ) (n : ℕ) (K₀ K : List ℕ) (m j : ℕ) (s : Seeing f n K₀ K m j) where
  pub seeing_end : n ≤ j → Listed K m 255 (distinct_from [] (children (row_of f)))
  unfolding distinct_from
  seeing_end h = record { is = rw (items_none short_at 2 f (5 + 2 * j) j n h) at s.is; few = omega (arith, s.most, s.low, s.few) }

  module _ (h : j < n) (room : 256 ≤ length K₀) where
    pub seeing_room : m ≤ length K
    seeing_room = omega (arith, s.few, s.most, s.size)

    pub seeing_place : m < length K
    seeing_place = omega (arith, s.few, s.most, s.size)

    module _ (c : ℕ) (e : c ≡ short_at f (5 + 2 * j)) (t : Bool) (any : t ≡ list_any (λ d. eqb d c) (take m K)) where
      q : t ≡ among c (take m K)
      q = any ∙ among_any c (take m K)

      step : distinct_from (pick t (take m K) (take m K ++ c ∷ [])) (items_at short_at 2 f (5 + 2 * (j + 1)) (n - (j + 1))) ≡ distinct_from [] (children (row_of f))
      unfolding distinct_from
      step =
          let z : 5 + 2 * j + 2 ≡ 5 + 2 * (j + 1) = omega arith in
          rw (← z, q, e) (rw (items_more short_at 2 f (5 + 2 * j) j n h) at s.is)

      pub seeing_known : t ≡ true → Seeing f n K₀ K m (j + 1)
      seeing_known g = record { most = s.most; low = omega arith; few = omega (arith, s.few); size = s.size; is = rw g at step }

      pub seeing_new : t ≡ false → Seeing f n K₀ (set K m c) (m + 1) (j + 1)
      seeing_new g = record { most = s.most; low = omega arith; few = omega (arith, s.few); size = length-set K m c ∙ s.size; is = rw (add-one m, take-suc-set K m c seeing_place) (rw g at step) }

-- ---- the row of a node

row_class : (f : List ℕ) → class_of (row_of f) ≡ short_at f 1
unfolding row_of
row_class f = by (eqb (get_or f 0 0) 0x30)
  where
    by : (b : Bool) → class_of (pick b (Node (short_at f 1) (get_or f 3 0) (items_at short_at 2 f 5 (get_or f 4 0))) (Literal (short_at f 1) (get_or f 3 0) (word_at f 4))) ≡ short_at f 1
    by true = refl
    by false = refl

module _ (rs : List Row) (node site position : ℕ) (f : List ℕ) (is : row_of f ≡ get_or rs node no_row) where
  pub at_node : site ≡ 0 → (K : List ℕ) (c : ℕ) → 256 ≤ length K → c ≡ short_at f 1 → Listed (set K 0 c) 1 255 (table_classes rs node site position)
  unfolding table_classes
  at_node z K c h e = rw (← is, z, row_class f, ← e) (one_listed K c h)

  pub at_child : site ≡ 1 → (K : List ℕ) (r : ℕ) → Listed K r 255 (child_of (children (row_of f)) position) → Listed K r 255 (table_classes rs node site position)
  unfolding table_classes
  at_child z K r l = rw (← is, z) l

  pub at_element : (site ≡ 0 → ⊥) → (site ≡ 1 → ⊥) → (K : List ℕ) (r : ℕ) → Listed K r 255 (distinct_from [] (children (row_of f))) → Listed K r 255 (table_classes rs node site position)
  unfolding table_classes
  at_element y z K r l = rw (← is, ne_eqb site 0 y, ne_eqb site 1 z) l
