-- The walk of a slot's chain for the rows that are asked for: they are counted, or some are taken. Assumes nothing.
use Prim.Native.Nat.{ℕ, suc, ◌+◌, ◌*◌, ◌/◌, ◌<◌, ◌≤◌}
use mathlib.Core.Path.{◌≡◌, refl, sym, ◌∙◌, ap}
use mathlib.Core.Bool.{Bool, true, false, not}
use mathlib.Core.List.{List, [], ◌∷◌}
use native.Mathlib.Omega.{arith}
use native.Mathlib.Numerals.{add-one}
use native.Mathlib.Nat.{le-div_iff_mul-le, div-mul-le_self, mul-le-mul}
use lib.ListN.{length, get_or, take, drop, set, length-set, length-drop, drop_of_length-le}
use lib.Seq.{drop-cons, take-suc, take-suc-set, take_all, length-take-le}
use lib.Dec.{eqb}
use borrow.Author.Tests.{eq-eqb, ne_eqb, not-true, not-false}
use Rattle.row_frames.specs.Choose.{pick}
use Rattle.row_frames.specs.Atoms.{Row, op_of}
use Rattle.row_frames.specs.Running.{no_row}
use Rattle.row_frames.specs.Items.{Each}
use Rattle.row_frames.specs.Rows.{row_of}
use Rattle.row_frames.specs.declared.row.Want.{Want}
use Rattle.row_frames.specs.Wanted.{wanted}
use Rattle.buckets.specs.Buckets.{numbers_from, strided, hits, StrideRoom, NumbersRoom}
use Rattle.buckets.specs.RowIndex.{row_at, next_at, head_at, chain_from, in_slot, slot_for, RowsIndexed}
use Rattle.buckets.proofs.NumberLaws.{each_at, numbers_few, numbers_below_lem, strided_length, strided_at, stride_below, keep, keep_numbers}
use Rattle.buckets.proofs.IndexLaws.{slot_below, wanted_slot, chain_more, chain_none}
use Rattle.row_frames.proofs.RowLaws.{row_op}

-- ---- one entry after the other

abbrev asked : List Row → Want → ℕ → Bool
asked rs w j = wanted w (get_or rs j no_row)

abbrev pub numbers : List Row → Want → List ℕ
numbers rs w = numbers_from (wanted w) 0 rs

-- from entry e on stand the numbers that are asked for, but for the first k
pub record Walk (rs : List Row) (i : List ℕ) (w : Want) (e k : ℕ) : Type 0 where
  pub small : e < 65536
  pub few : k ≤ length (numbers rs w)
  pub below : Each (λ j. j < length rs) (chain_from i e e)
  pub is : keep (asked rs w) (chain_from i e e) ≡ drop k (numbers rs w)

module _ (rs : List Row) (s i : List ℕ) (w : Want) (x : RowsIndexed rs s i) where
  pub walk_first : (e : ℕ) → (e ≡ head_at i (slot_for w)) × (e < 65536) → Walk rs i w e 0
  walk_first e h =
      let c : chain_from i e e ≡ numbers_from (in_slot (slot_for w)) 0 rs = rw h.0 (x.chains (slot_for w) (slot_below w)) in
      record {
        small = h.1;
        few = omega arith;
        below = rw c (numbers_below_lem (in_slot (slot_for w)) rs);
        is = rw c (keep_numbers (wanted w) (in_slot (slot_for w)) (asked rs w) (wanted_slot w) 0 rs (λ k l. let z : 0 + k ≡ k = omega arith in rw z));
      }

  module _ (e k : ℕ) (v : Walk rs i w e k) where
    pub walk_few : k ≤ 1024
    walk_few = omega (arith, v.few, numbers_few (wanted w) 0 rs, x.few)

    pub walk_end : e ≡ 0 → k ≡ length (numbers rs w)
    unfolding keep
    walk_end h =
        let z : [] ≡ drop k (numbers rs w) = rw (chain_none i e h) at v.is in
        omega (arith, v.few, ap length z, length-drop k (numbers rs w))

    module _ (z : e ≡ 0 → ⊥) where
      pub walk_less : (o : ℕ) → o ≡ next_at i e → o < e
      walk_less o h = rw h (x.falling e (omega arith))

      module _ (j : ℕ) (row : j ≡ row_at i e) where
        chain : chain_from i e e ≡ j ∷ chain_from i (next_at i e) (next_at i e)
        chain = rw row (chain_more i x.falling e z)

        rest : Each (λ j. j < length rs) (j ∷ chain_from i (next_at i e) (next_at i e))
        rest = rw chain at v.below

        pub walk_row : j < length rs
        walk_row = rest.0

        module _ (o : ℕ) (next : (o ≡ next_at i e) × (o < 65536)) (r : Row) (of : r ≡ get_or rs j no_row) (b : Bool) (test : b ≡ wanted w r) where
          split : pick b (j ∷ keep (asked rs w) (chain_from i o o)) (keep (asked rs w) (chain_from i o o)) ≡ drop k (numbers rs w)
          unfolding keep
          split = let t : asked rs w j ≡ b = rw (← of) (sym test) in rw next.0 (rw (chain, t) at v.is)

          pub walk_other : not b ≡ true → Walk rs i w o k
          walk_other g = record { small = next.1; few = v.few; below = rw next.0 rest.1; is = rw (not-true b g) at split }

          module _ (g : not b ≡ false) where
            found : j ∷ keep (asked rs w) (chain_from i o o) ≡ drop k (numbers rs w)
            found = rw (not-false b g) at split

            more : k < length (numbers rs w)
            more = omega (arith, ap length found, length-drop k (numbers rs w))

            ahead : j ∷ keep (asked rs w) (chain_from i o o) ≡ get_or (numbers rs w) k 0 ∷ drop (suc k) (numbers rs w)
            ahead = found ∙ drop-cons (numbers rs w) k 0 more

            pub walk_number : j ≡ get_or (numbers rs w) k 0
            walk_number = ap (λ (l : List ℕ). get_or l 0 0) ahead

            pub walk_next : Walk rs i w o (k + 1)
            walk_next = record { small = next.1; few = omega (arith, more); below = rw next.0 rest.1; is = rw (add-one k) (ap (λ (l : List ℕ). drop 1 l) ahead) }

-- ---- some of them are taken

-- j are taken, and the next of them is not yet passed
pub record Striding (rs : List Row) (i : List ℕ) (w : Want) (n m : ℕ) (out₀ out : List ℕ) (e k j : ℕ) : Type 0 where
  pub walk : Walk rs i w e k
  pub size : length out ≡ length out₀
  pub low : j ≤ m
  pub ahead : j < m → k ≤ j * n / m
  pub is : take j out ≡ take j (strided m (numbers rs w))

-- the next one stands behind this one
stride_next : (j n m : ℕ) → 0 < m → m ≤ n → j * n / m + 1 ≤ (j + 1) * n / m
stride_next j n m p h =
    let a : (j * n / m + 1) * m ≤ (j + 1) * n = omega (arith, div-mul-le_self (j * n) m) in
    (le-div_iff_mul-le {k = m} p).1 a

module _ (rs : List Row) (s i : List ℕ) (w : Want) (n m : ℕ) (out₀ : List ℕ) (x : RowsIndexed rs s i) (room : StrideRoom (numbers rs w) n m out₀) where
  pub striding_first : (e : ℕ) → (e ≡ head_at i (slot_for w)) × (e < 65536) → Striding rs i w n m out₀ out₀ e 0 0
  striding_first e h = record { walk = walk_first rs s i w x e h; size = refl; low = omega arith; ahead = λ l. omega arith; is = refl }

  module _ (out : List ℕ) (e k j : ℕ) (v : Striding rs i w n m out₀ out e k j) where
    pub striding_end : m ≤ j → take m out ≡ strided m (numbers rs w)
    striding_end h =
        let z : j ≡ m = omega (arith, v.low) in
        (rw z at v.is) ∙ take_all m (strided m (numbers rs w)) (omega (arith, strided_length m (numbers rs w)))

    module _ (h : j < m) where
      pub stride_fits : j * n < 0x1_0000_0000
      stride_fits =
          let a : n ≤ 1024 = omega (arith, room.many, numbers_few (wanted w) 0 rs, x.few) in
          let b : j ≤ 1024 = omega (arith, room.few) in
          let c : j * n ≤ 1024 * 1024 = mul-le-mul b a in
          omega arith

      -- there is one more
      pub stride_some : e ≡ 0 → ⊥
      stride_some z = omega (arith, walk_end rs s i w x e k v.walk z, room.many, v.ahead h, stride_below j m n h room.few)

      pub stride_less : (o : ℕ) → o ≡ next_at i e → o < e
      stride_less o = walk_less rs s i w x e k v.walk stride_some o

      pub stride_room : j < length out
      stride_room = omega (arith, room.room, v.size)

      module _ (row o : ℕ) (is : row ≡ row_at i e) (next : (o ≡ next_at i e) × (o < 65536)) (r : Row) (of : r ≡ get_or rs row no_row) (b : Bool) (test : b ≡ wanted w r) where
        pub striding_other : not b ≡ true → Striding rs i w n m out₀ out o k j
        striding_other g = record { walk = walk_other rs s i w x e k v.walk stride_some row is o next r of b test g; size = v.size; low = v.low; ahead = v.ahead; is = v.is }

        module _ (g : not b ≡ false) where
          after : Walk rs i w o (k + 1)
          after = walk_next rs s i w x e k v.walk stride_some row is o next r of b test g

          pub striding_pass : (k ≡ j * n / m → ⊥) → Striding rs i w n m out₀ out o (k + 1) j
          striding_pass u = record { walk = after; size = v.size; low = v.low; ahead = λ l. omega (arith, v.ahead h); is = v.is }

          pub striding_take : k ≡ j * n / m → Striding rs i w n m out₀ (set out j row) o (k + 1) (j + 1)
          striding_take u = record {
            walk = after;
            size = length-set out j row ∙ v.size;
            low = omega arith;
            ahead = λ l. omega (arith, stride_next j n m (omega arith) room.few);
            is = rw (add-one j, take-suc-set out j row stride_room, take-suc (strided m (numbers rs w)) j 0 (omega (arith, strided_length m (numbers rs w))), v.is, same);
          }
            where
              same : row ≡ get_or (strided m (numbers rs w)) j 0
              same =
                  walk_number rs s i w x e k v.walk stride_some row is o next r of b test g
                  ∙ rw (u, room.many) (sym (strided_at m (numbers rs w) j h))

-- ---- how many have an operator

pub record Hitting (rs : List Row) (o : ℕ) (ns : List ℕ) (n i : ℕ) : Type 0 where
  pub low : i ≤ length ns
  pub few : n ≤ i
  pub is : n + hits rs o (drop i ns) ≡ hits rs o ns

module _ (rs : List Row) (o : ℕ) (ns : List ℕ) where
  pub hitting_first : Hitting rs o ns 0 0
  hitting_first = record { low = omega arith; few = omega arith; is = omega arith }

  module _ (n i : ℕ) (v : Hitting rs o ns n i) where
    pub hitting_end : length ns ≤ i → n ≡ hits rs o ns
    unfolding hits
    hitting_end h = let z : drop i ns ≡ [] = drop_of_length-le ns h in omega (arith, rw z at v.is)

    module _ (h : i < length ns) (f : List ℕ) (of : row_of f ≡ get_or rs (get_or ns i 0) no_row) (b : ℕ) (byte : b ≡ get_or f 3 0) where
      one_more : n + pick (eqb b o) (suc (hits rs o (drop (i + 1) ns))) (hits rs o (drop (i + 1) ns)) ≡ hits rs o ns
      unfolding hits
      one_more =
          let a : op_of (get_or rs (get_or ns i 0) no_row) ≡ b = rw (← of, row_op f) (sym byte) in
          rw (add-one i) (rw (drop-cons ns i 0 h, a) at v.is)

      pub hitting_other : (b ≡ o → ⊥) → Hitting rs o ns n (i + 1)
      hitting_other g = record { low = omega arith; few = omega (arith, v.few); is = rw (ne_eqb _ _ g) at one_more }

      pub hitting_next : b ≡ o → Hitting rs o ns (n + 1) (i + 1)
      hitting_next g = record { low = omega arith; few = omega (arith, v.few); is = omega (arith, rw (eq-eqb _ _ g) at one_more) }

module _ (rs : List Row) (m : ℕ) (rows : List ℕ) (i : ℕ) (room : NumbersRoom (length rs) m rows) where
  pub hit_row : i < length (take m rows) → get_or (take m rows) i 0 < length rs
  hit_row h = each_at (λ j. j < length rs) (take m rows) i 0 room.below h

  pub hitting_few : (o n : ℕ) → Hitting rs o (take m rows) n i → n ≤ m
  hitting_few o n v = omega (arith, v.low, v.few, length-take-le m rows room.room)
