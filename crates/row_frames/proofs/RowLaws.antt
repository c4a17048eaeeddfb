-- A row by its frame: its operator, its children, and whether it is asked for. Assumes nothing.
use Prim.Native.Nat.{ℕ, zero, suc, ◌+◌, ◌*◌, ◌-◌, ◌<◌, ◌≤◌}
use mathlib.Core.Path.{◌≡◌, refl, sym, ◌∙◌, ap}
use mathlib.Core.Bool.{Bool, true, false, ◌||◌}
use mathlib.Core.List.{List}
use native.Mathlib.Omega.{arith}
use lib.ListN.{length, get_or, get_or-eq_default}
use lib.Dec.{eqb}
use borrow.Author.Tests.{eq-eqb, ne_eqb}
use Rattle.records.specs.Choose.{pick}
use Rattle.records.specs.FieldValues.{child_path}
use Rattle.records.specs.Digits.{short_at, word_at}
use Rattle.records.specs.Atoms.{Node, Literal, op_of, children, child_at, unset}
use Rattle.records.specs.Equality.{same_class}
use Rattle.records.specs.Running.{among}
use Rattle.records.specs.Items.{items_at}
use Rattle.records.specs.Rows.{row_of}
use Rattle.records.proofs.ItemsLaws.{items_count, items_more, items_none}
use Rattle.row_frames.specs.declared.row.Want.{Want}
use Rattle.row_frames.specs.Wanted.{count_of, op_path, has_at, wanted}

module _ (f : List ℕ) where
  pub row_op : op_of (row_of f) ≡ get_or f 3 0
  unfolding row_of
  row_op = by (eqb (get_or f 0 0) 0x30)
    where
      by : (b : Bool) → op_of (pick b (Node (short_at f 1) (get_or f 3 0) (items_at short_at 2 f 5 (get_or f 4 0))) (Literal (short_at f 1) (get_or f 3 0) (word_at f 4))) ≡ get_or f 3 0
      by true = refl
      by false = refl

  pub row_children : children (row_of f) ≡ items_at short_at 2 f 5 (count_of f)
  unfolding row_of items_at
  row_children = by (eqb (get_or f 0 0) 0x30)
    where
      by : (b : Bool) → children (pick b (Node (short_at f 1) (get_or f 3 0) (items_at short_at 2 f 5 (get_or f 4 0))) (Literal (short_at f 1) (get_or f 3 0) (word_at f 4))) ≡ items_at short_at 2 f 5 (pick b (get_or f 4 0) 0)
      by true = refl
      by false = refl

  pub row_count : length (children (row_of f)) ≡ count_of f
  row_count = ap length row_children ∙ items_count short_at 2 f 5 (count_of f)

  -- ---- how many children

  module _ (k : ℕ) (kind : k ≡ get_or f 0 0) where
    pub count_none : (k ≡ 0x30 → ⊥) → 0 ≡ count_of f
    count_none h = rw (← kind, ne_eqb _ _ h)

    pub count_some : (k ≡ 0x30) → (b n : ℕ) → b ≡ get_or f 4 0 → n ≡ b → n ≡ count_of f
    count_some h b n p q = rw (← kind, eq-eqb _ _ h) (q ∙ p)

-- the j-th of n items
items_at_lem : {X : Type 0} (read : List ℕ → ℕ → X) (w : ℕ) (f : List ℕ) (i n j : ℕ) (d : X) → j < n → get_or (items_at read w f i n) j d ≡ read f (i + w * j)
unfolding items_at
items_at_lem read w f i zero j d h = absurd (omega arith)
items_at_lem read w f i (suc n) zero d h = let e : i ≡ i + w * zero = omega arith in ap (read f) e
items_at_lem read w f i (suc n) (suc j) d h = let e : i + w + w * j ≡ i + w * suc j = omega arith in items_at_lem read w f (i + w) n j d (omega arith) ∙ ap (read f) e

-- ---- the class at a place

module _ (f : List ℕ) (place n p : ℕ) (count : n ≡ count_of f) (at : p ≡ place) where
  pub child_past : n ≤ p → unset ≡ child_at (row_of f) place
  child_past h = sym (get_or-eq_default (children (row_of f)) unset (omega (arith, row_count f)))

  pub child_there : p < n → (c : ℕ) → c ≡ short_at f (5 + 2 * p) → c ≡ child_at (row_of f) place
  child_there h c e = e ∙ rw (row_children f, ← count, ← at) (sym (items_at_lem short_at 2 f 5 n p unset h))

pub at_place : (f : List ℕ) (c p d : ℕ) → (c ≡ unset → ⊥) → d ≡ child_at (row_of f) p → eqb d c ≡ has_at c p (row_of f)
unfolding same_class
at_place f c p d h e = rw (ne_eqb _ _ h, e)

-- ---- a class among the children, one after the other

pub record Has (f : List ℕ) (c n j : ℕ) : Type 0 where
  pub few : n < 256
  pub is : among c (children (row_of f)) ≡ among c (items_at short_at 2 f (5 + 2 * j) (n - j))

module _ (f : List ℕ) (c n : ℕ) where
  pub has_first : (n ≡ count_of f) × (n < 256) → Has f c n 0
  has_first e = let b : n - 0 ≡ n = omega arith in record { few = e.1; is = rw (row_children f, ← e.0, b) }

  module _ (j : ℕ) (h : Has f c n j) where
    pub has_end : n ≤ j → false ≡ among c (children (row_of f))
    unfolding among
    has_end l = sym (h.is ∙ ap (among c) (items_none short_at 2 f (5 + 2 * j) j n l))

    module _ (l : j < n) (d : ℕ) (e : d ≡ short_at f (5 + 2 * j)) where
      more : among c (children (row_of f)) ≡ (eqb d c || among c (items_at short_at 2 f (5 + 2 * j + 2) (n - (j + 1))))
      unfolding among same_class
      more = h.is ∙ rw (items_more short_at 2 f (5 + 2 * j) j n l, e)

      pub has_here : d ≡ c → true ≡ among c (children (row_of f))
      has_here g = rw (more, eq-eqb _ _ g)

      pub has_next : (d ≡ c → ⊥) → Has f c n (j + 1)
      has_next g = let z : 5 + 2 * j + 2 ≡ 5 + 2 * (j + 1) = omega arith in record { few = h.few; is = rw (← z, more, ne_eqb _ _ g) }

-- ---- what is asked for

module _ (f : List ℕ) (w : Want) where
  pub wanted_op : w.path ≡ op_path → (b o : ℕ) → b ≡ get_or f 3 0 → o ≡ b → eqb o w.class ≡ wanted w (row_of f)
  unfolding wanted
  wanted_op h b o p q = rw (eq-eqb _ _ h, row_op f, ← p, ← q)

  module _ (r : Bool) where
    pub wanted_at : w.path ≡ child_path → r ≡ has_at w.class w.place (row_of f) → r ≡ wanted w (row_of f)
    unfolding wanted
    wanted_at g e = let h : w.path ≡ op_path → ⊥ = λ q. omega arith in rw (ne_eqb _ _ h, eq-eqb _ _ g) e

    pub wanted_among : (w.path ≡ op_path → ⊥) → (w.path ≡ child_path → ⊥) → r ≡ among w.class (children (row_of f)) → r ≡ wanted w (row_of f)
    unfolding wanted
    wanted_among h g e = rw (ne_eqb _ _ h, ne_eqb _ _ g) e
