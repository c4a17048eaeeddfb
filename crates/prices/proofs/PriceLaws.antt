-- The rows of the table of prices: what is read of them, and how they are filled. Proved by the places that each store leaves alone.
use Rattle.std.specs.Prelude.{Some, None}
use Rattle.std.specs.Prelude.{Option as OptionOf}
use Prim.Native.Nat.{ℕ, ◌+◌, ◌-◌, ◌*◌, ◌<◌, ◌≤◌}
use mathlib.Core.Path.{◌≡◌, refl, sym, ◌∙◌, ap}
use mathlib.Core.Bool.{Bool, true, false}
use mathlib.Core.List.{List, ◌++◌}
use native.Mathlib.Omega.{arith}
use lib.Dec.{ltb}
use lib.ListN.{length, get_or, take, drop, set, length-set, length-drop, take-append-drop}
use lib.Seq.{get_or-set_same, get_or-set_other, get_or-take, take-set-le, length-take-le, take-append-le, drop-append-le, take_at, drop_at}
use lib.Ieee.{Float, binary64, mul}
use borrow.Author.Tests.{ltb-true, ltb-false}
use Rattle.frames.specs.Sheet.{frame_at, frames_in}
use Rattle.kinds.specs.Kinds.{items_of}
use Rattle.frames.specs.Frames.{kind_of}
use Rattle.measure.specs.Selectivity.{zero64, path_selectivity}
use Rattle.passes.specs.Statistics.{base_card, denominator, by_child_pos, by_contains, by_repr, nodes}
use Rattle.passes.specs.Bound.{Bound}
use Rattle.prices.specs.Items.{item_fan, or_fan, ItemsOf, item_at, repr_selectivity, repr_cost}
use Rattle.prices.specs.Prices.{row_size, item_price, ItemPriced, ItemsPriced, RowItems, AtomPrices, row_at, atom_frame, FewItems, Priced}
use Rattle.prices.specs.declared.items.Items.{Items}
use Rattle.prices.specs.declared.items.Item.{Item}
use Rattle.hexadecimal.proofs.Lists.{any_default}

-- ---- what is read of a row

module _ (fs : List (List ℕ)) (f : List ℕ) (k : ℕ) (ps : List Float) (w : AtomPrices fs f k ps) (d : Float) where
  pub row_base : get_or ps 0 d ≡ base_card fs (get_or f 2 0) k
  row_base = any_default ps 0 d zero64 (omega (arith, w.items.room)) ∙ w.base

  pub row_node : get_or ps 1 d ≡ repr_cost fs (get_or f 2 0) k
  row_node = any_default ps 1 d zero64 (omega (arith, w.items.room)) ∙ w.node

-- item number k
pub item_priced : (fs : List (List ℕ)) (f : List ℕ) (g : Items) (k : ℕ) (B : Bound) (x : Item) (ps : List Float) → ItemsOf f g → RowItems fs f ps → x ≡ item_at f g k B → k < g.count → ItemPriced fs x ps
item_priced fs f g k B x ps z w e h =
    let l : k < items_of (kind_of f) f = rw z.count at h in
    rw e record { room = omega (arith, w.room); is = rw (z.op, z.elements) (w.is k l) }

module _ (fs : List (List ℕ)) (x : Item) (v : OptionOf Float) where
  pub by_sample : (y : Float) (d : ℕ) (r : Float) → v ≡ Some y → d ≡ denominator fs x.op → r ≡ path_selectivity v d → r ≡ path_selectivity (or_fan v (item_fan fs x.op x.element x.position)) (denominator fs x.op)
  by_sample y d r e hd h = h ∙ rw (hd, e)

  pub by_row : (ps : List Float) (p : ℕ) (d : Float) → v ≡ None → ItemPriced fs x ps → p ≡ x.position → get_or ps (p + 2) d ≡ path_selectivity (or_fan v (item_fan fs x.op x.element x.position)) (denominator fs x.op)
  by_row ps p d e w h = rw (e, h) (any_default ps (x.position + 2) d zero64 w.room ∙ w.is)

-- the row of atom number k, as a part of the table
module _ (x from : List ℕ) (n : ℕ) (ps : List Float) (w : Priced x from n ps) (k : ℕ) (h : k < n) where
  pub row_within : row_size * k + row_size ≤ length ps
  row_within = omega (arith, w.room)

  pub row_priced : (i : ℕ) (l : List ℕ) → i ≡ k → l ≡ frame_at x (get_or from k 0) → AtomPrices (frames_in x) l i (take (row_size * k + row_size - row_size * k) (drop (row_size * k) ps))
  row_priced i l hi hl =
      let e : row_size * k + row_size - row_size * k ≡ row_size = omega arith in
      rw (hi, hl, e) (w.rows k h)

-- ---- how a row is filled

module _ (fs : List (List ℕ)) (o p : ℕ) (t : Bool) (f : OptionOf Float) where
  pub element_fan : t ≡ true → f ≡ by_contains fs o → f ≡ item_fan fs o t p
  element_fan h e = rw h e

  pub child_fan : t ≡ false → f ≡ by_child_pos fs o p → f ≡ item_fan fs o t p
  child_fan h e = rw h e

module _ (fs : List (List ℕ)) (g : Items) (ps : List Float) where
  pub items_none : ItemsPriced fs g 0 ps ps
  items_none = record { few = omega arith; size = refl; front = refl; is = λ j h. absurd (omega arith) }

  module _ (j : ℕ) (qs : List Float) (m : ItemsPriced fs g j ps qs) where
    pub items_all : g.count ≤ j → ItemsPriced fs g g.count ps qs
    items_all h = let e : j ≡ g.count = omega (arith, m.few) in rw e at m

    module _ (h : j < g.count) (l : g.count + 2 ≤ length ps) where
      pub item_slot : j + 2 < length qs
      item_slot = omega (arith, m.size)

      pub items_again : (d p : ℕ) (v : OptionOf Float) (e : Float) → d ≡ denominator fs g.op → p ≡ j → v ≡ item_fan fs g.op g.elements p → e ≡ path_selectivity v d → ItemsPriced fs g (j + 1) ps (set qs (j + 2) e)
      items_again d p v e hd hp hv he = record {
        few = omega arith;
        size = length-set qs (j + 2) e ∙ m.size;
        front = take-set-le 2 qs (j + 2) e (omega arith) ∙ m.front;
        is = λ i k. at i k (ltb i j) refl;
      }
        where
          at : (i : ℕ) → i < j + 1 → (b : Bool) → ltb i j ≡ b → get_or (set qs (j + 2) e) (i + 2) zero64 ≡ item_price fs g.op g.elements i
          at i k true t =
              let a : i < j = ltb-true i j t in
              get_or-set_other qs (j + 2) (i + 2) e zero64 (λ z. omega arith) ∙ m.is i a
          at i k false t =
              let a : j ≤ i = ltb-false i j t in
              let z : i ≡ j = omega arith in
              rw z (get_or-set_same qs (j + 2) e zero64 item_slot ∙ rw (he, hv, hd, hp))

-- as many numbers with the first two set
module _ (ps : List Float) (b e : Float) where
  pub row_slot : (n : ℕ) → n + 2 ≤ length ps → 1 < length (set ps 0 b)
  row_slot n l = omega (arith, length-set ps 0 b)

  pub items_fit : (f : List ℕ) (g : Items) → ItemsOf f g → items_of (kind_of f) f + 2 ≤ length ps → g.count + 2 ≤ length (set (set ps 0 b) 1 e)
  items_fit f g z l = omega (arith, z.count, length-set (set ps 0 b) 1 e, length-set ps 0 b)

  pub row_size_lem : (fs : List (List ℕ)) (g : Items) (m : ℕ) (qs : List Float) → ItemsPriced fs g m (set (set ps 0 b) 1 e) qs → length qs ≡ length ps
  row_size_lem fs g m qs h = h.size ∙ length-set (set ps 0 b) 1 e ∙ length-set ps 0 b

-- the first two numbers, then the items
pub row_filled : (fs : List (List ℕ)) (f : List ℕ) (k : ℕ) (g : Items) (ps qs : List Float) (b r : Float) → items_of (kind_of f) f + 2 ≤ length ps → ItemsOf f g → b ≡ base_card fs g.op k → r ≡ repr_selectivity fs → ItemsPriced fs g g.count (set (set ps 0 b) 1 (mul binary64 b r)) qs → AtomPrices fs f k qs
row_filled fs f k g ps qs b r l z hb hr m = record {
  base = front 0 (omega arith) ∙ get_or-set_other (set ps 0 b) 1 0 (mul binary64 b r) zero64 (λ e. omega arith) ∙ get_or-set_same ps 0 b zero64 (omega arith) ∙ hb ∙ rw z.op;
  node = front 1 (omega arith) ∙ get_or-set_same (set ps 0 b) 1 (mul binary64 b r) zero64 (omega (arith, length-set ps 0 b)) ∙ rw (hb, hr, z.op);
  items = record { room = omega (arith, size); is = λ j h. rw (← z.op, ← z.elements) (m.is j (rw z.count h)) };
}
  where
    size : length qs ≡ length ps
    size = row_size_lem ps b (mul binary64 b r) fs g g.count qs m

    front : (i : ℕ) → i < 2 → get_or qs i zero64 ≡ get_or (set (set ps 0 b) 1 (mul binary64 b r)) i zero64
    front i h = sym (get_or-take 2 qs i zero64 h) ∙ ap (λ (l : List Float). get_or l i zero64) m.front ∙ get_or-take 2 (set (set ps 0 b) 1 (mul binary64 b r)) i zero64 h

-- ---- the table

pub repr_is : (fs : List (List ℕ)) (n : ℕ) (r s : Float) → r ≡ by_repr fs → n ≡ nodes fs → s ≡ path_selectivity (Some r) n → s ≡ repr_selectivity fs
repr_is fs n r s hr hn hs = hs ∙ rw (hr, hn)

-- k of n rows are filled in ps, which is ps₀ before
pub record Pricing (x from : List ℕ) (n : ℕ) (ps₀ ps : List Float) (k : ℕ) : Type 0 where
  pub few : k ≤ n
  pub size : length ps ≡ length ps₀
  pub priced : Priced x from k ps

-- a row before the end of xs
row_before : (xs ys : List Float) (j : ℕ) → row_size * j + row_size ≤ length xs → row_at (xs ++ ys) j ≡ row_at xs j
row_before xs ys j h =
    let a : row_size ≤ length (drop (row_size * j) xs) = omega (arith, length-drop (row_size * j) xs) in
    rw (drop-append-le (row_size * j) xs ys (omega arith), take-append-le row_size (drop (row_size * j) xs) ys a)

module _ (x from : List ℕ) (n : ℕ) (ps₀ : List Float) where
  pub pricing_none : Pricing x from n ps₀ ps₀ 0
  pricing_none = record { few = omega arith; size = refl; priced = record { room = omega arith; rows = λ k l. absurd (omega arith) } }

  module _ (ps : List Float) (k : ℕ) (m : Pricing x from n ps₀ ps k) where
    pub pricing_all : n ≤ k → Priced x from n ps
    pricing_all h = let e : k ≡ n = omega (arith, m.few) in rw e at m.priced

    module _ (h : k < n) (room : row_size * n ≤ length ps₀) where
      pub row_ends : row_size * k + row_size ≤ length ps
      row_ends = omega (arith, m.size)

      row_length : length (take (row_size * k + row_size - row_size * k) (drop (row_size * k) ps)) ≡ row_size
      row_length =
          let e : row_size * k + row_size - row_size * k ≡ row_size = omega arith in
          rw e (length-take-le row_size (drop (row_size * k) ps) (omega (arith, row_ends, length-drop (row_size * k) ps)))

      module _ (l : List ℕ) (hl : l ≡ frame_at x (get_or from k 0)) where
        pub row_room : FewItems x from n → items_of (kind_of l) l + 2 ≤ length (take (row_size * k + row_size - row_size * k) (drop (row_size * k) ps))
        row_room z = rw (row_length, hl) (z.few k h)

        module _ (r : List Float) (s : length r ≡ length (take (row_size * k + row_size - row_size * k) (drop (row_size * k) ps))) (w : AtomPrices (frames_in x) l k r) where
          abbrev behind : List Float
          behind = drop (row_size * k + row_size - row_size * k) (drop (row_size * k) ps)

          abbrev with_row : List Float
          with_row = take (row_size * k) ps ++ (r ++ behind)

          front : length (take (row_size * k) ps) ≡ row_size * k
          front = length-take-le (row_size * k) ps (omega (arith, row_ends))

          this_row : row_at with_row k ≡ r
          this_row = rw (drop_at (take (row_size * k) ps) (r ++ behind) (row_size * k) front, take_at r behind row_size (s ∙ row_length))

          other_row : (j : ℕ) → j < k → row_at with_row j ≡ row_at ps j
          other_row j t =
              let a : row_size * j + row_size ≤ length (take (row_size * k) ps) = omega (arith, front) in
              row_before (take (row_size * k) ps) (r ++ behind) j a ∙ sym (row_before (take (row_size * k) ps) (drop (row_size * k) ps) j a) ∙ ap (λ (l : List Float). row_at l j) (take-append-drop (row_size * k) ps)

          pub pricing_again : length with_row ≡ length ps → Pricing x from n ps₀ with_row (k + 1)
          pricing_again e = record {
            few = omega arith;
            size = e ∙ m.size;
            priced = record { room = omega (arith, e, row_ends); rows = λ j t. at j t (ltb j k) refl };
          }
            where
              at : (j : ℕ) → j < k + 1 → (b : Bool) → ltb j k ≡ b → AtomPrices (frames_in x) (atom_frame x from j) j (row_at with_row j)
              at j t true b =
                  let a : j < k = ltb-true j k b in
                  rw (other_row j a) (m.priced.rows j a)
              at j t false b =
                  let a : k ≤ j = ltb-false j k b in
                  let z : j ≡ k = omega arith in
                  rw (z, this_row, ← hl) w
