-- A row is entered in each of its slots, one after the other. Assumes nothing.
use Prim.Native.Nat.{ℕ, suc, ◌+◌, ◌*◌, ◌-◌, ◌%◌, ◌<◌, ◌≤◌}
use mathlib.Core.Path.{◌≡◌, refl, sym, ◌∙◌, ap}
use mathlib.Core.Bool.{Bool, true, false, ◌||◌}
use mathlib.Core.List.{List, [], ◌∷◌, map}
use native.Mathlib.Omega.{arith}
use lib.ListN.{length, get_or, take, length-map}
use lib.Dec.{eqb}
use borrow.Author.Tests.{eq-eqb, ne_eqb, eqb-true, eqb-false}
use Rattle.hexadecimal.specs.Choose.{pick}
use Rattle.fields.specs.Limits.{items_most}
use Rattle.hexadecimal.specs.Digits.{short_at}
use Rattle.row_frames.specs.Atoms.{op_of, children}
use Rattle.row_frames.specs.Equality.{same_class}
use Rattle.row_frames.specs.Running.{among}
use Rattle.row_frames.specs.Items.{items_at, Each}
use Rattle.row_frames.specs.Rows.{row_of}
use Rattle.row_frames.proofs.ItemsLaws.{items_more, items_none}
use Rattle.row_frames.specs.Wanted.{count_of}
use Rattle.row_frames.proofs.RowLaws.{row_op, row_children, row_count}
use Rattle.buckets.specs.RowIndex.{heads_at, row_slots, head_at, row_at, next_at, chain_from, chain_at, class_slot, op_slot, slots_of, in_slot}
use Rattle.buckets.proofs.IndexLaws.{chain_more, chain_none}
use Rattle.row_indexing.specs.Filling.{is_of, entered, entered_once, entries_then, EntryRoom, Entries, RowRoom, RowEntered}
use Rattle.row_indexing.proofs.EntryLaws.{Stored, stored, entered_chains}

-- the chains of another name
pub entries_are : (i : List ℕ) (m : ℕ) (c d : ℕ → List ℕ) → ((t : ℕ) → t < row_slots → c t ≡ d t) → Entries i m c → Entries i m d
entries_are i m c d e x = record { falling = x.falling; heads = x.heads; are = λ t h. x.are t h ∙ e t h }

-- ---- whether row j is entered

-- it is so where its chain begins with j, as those below are above j
module _ (i : List ℕ) (falling : (e : ℕ) → 0 < e → next_at i e < e) (j e : ℕ) (below : List ℕ) (above : Each (λ n. j < n) below) where
  first_is : (b : Bool) (rest : List ℕ) → row_at i e ∷ rest ≡ pick b (j ∷ below) below → eqb (row_at i e) j ≡ b
  first_is true rest q = eq-eqb _ _ (ap (λ (l : List ℕ). get_or l 0 0) q)
  first_is false rest q = ne_eqb _ _ (λ z. by below above q z)
    where
      by : (l : List ℕ) → Each (λ n. j < n) l → row_at i e ∷ rest ≡ l → row_at i e ≡ j → ⊥
      by [] a p z = let y : suc (length rest) ≡ 0 = ap length p in omega arith
      by (n ∷ l) a p z = let y : row_at i e ≡ n = ap (λ (l : List ℕ). get_or l 0 0) p in omega (arith, a.0)

  none_is : (b : Bool) → [] ≡ pick b (j ∷ below) below → false ≡ b
  none_is true q = let y : 0 ≡ suc (length below) = ap length q in absurd (omega arith)
  none_is false q = refl

  -- THE LAW
  pub is_done_lem : (b : Bool) → chain_from i e e ≡ pick b (j ∷ below) below → is_of i e j ≡ b
  is_done_lem b q = by (eqb e 0) refl
    where
      by : (z : Bool) → eqb e 0 ≡ z → pick z false (eqb (row_at i e) j) ≡ b
      by true z = none_is b (sym (chain_none i e (eqb-true e 0 z)) ∙ q)
      by false z = first_is b (chain_from i (next_at i e) (next_at i e)) (sym (chain_more i falling e (eqb-false e 0 z)) ∙ q)

-- ---- one slot after the other

-- the slots left are those in which it is not yet entered
pub record Entering (f I : List ℕ) (j m₀ : ℕ) (J : List ℕ) (m : ℕ) (left : List ℕ) : Type 0 where
  pub done : ℕ → Bool
  pub entries : Entries J m (λ t. pick (done t) (j ∷ chain_at I t) (chain_at I t))
  pub all : (t : ℕ) → (done t || among t left) ≡ in_slot t (row_of f)
  pub few : m + length left ≤ m₀ + (1 + items_most)
  pub size : length J ≡ length I
  pub kept : take heads_at J ≡ take heads_at I

module _ (f I : List ℕ) (j m₀ : ℕ) (room : RowRoom f I j m₀) where
  pub entering_first : Entering f I j m₀ I m₀ (slots_of (row_of f))
  entering_first = record {
    done = λ t. false;
    entries = room.entries;
    all = λ t. refl;
    few = omega (arith, room.narrow, row_count f, length-map (children (row_of f)) class_slot);
    size = refl;
    kept = refl;
  }

  module _ (J : List ℕ) (m : ℕ) where
    pub entering_end : Entering f I j m₀ J m [] → RowEntered f I j m₀ J m
    unfolding among
    entering_end v = record {
      entries = entries_are J m _ _ (λ t h. by t (v.done t) (v.all t)) v.entries;
      few = omega (arith, v.few);
      size = v.size;
      kept = v.kept;
    }
      where
        by : (t : ℕ) (b : Bool) → (b || false) ≡ in_slot t (row_of f) → pick b (j ∷ chain_at I t) (chain_at I t) ≡ pick (in_slot t (row_of f)) (j ∷ chain_at I t) (chain_at I t)
        by t true q = rw (← q)
        by t false q = rw (← q)

    module _ (x : ℕ) (left : List ℕ) (v : Entering f I j m₀ J m (x ∷ left)) where
      pub entry_room : EntryRoom J (m + 1)
      entry_room = record { room = omega (arith, v.few, v.size, room.room.room); small = omega (arith, v.few, room.room.small) }

      module _ (slot : x < row_slots) where
        -- it is entered in the slot already, or not
        test : is_of J (head_at J x) j ≡ v.done x
        test = is_done_lem J v.entries.falling j (head_at J x) (chain_at I x) (room.above x slot) (v.done x) (v.entries.are x slot)

        more : (t : ℕ) → (v.done t || (same_class x t || among t left)) ≡ in_slot t (row_of f)
        unfolding among
        more t = v.all t

        there : v.done x ≡ true → Entering f I j m₀ J m left
        unfolding same_class
        there h = record {
          done = v.done;
          entries = v.entries;
          all = λ t. by t (v.done t) (eqb x t) refl refl (more t);
          few = omega (arith, v.few);
          size = v.size;
          kept = v.kept;
        }
          where
            by : (t : ℕ) (a b : Bool) → v.done t ≡ a → eqb x t ≡ b → (a || (b || among t left)) ≡ in_slot t (row_of f) → (a || among t left) ≡ in_slot t (row_of f)
            by t true b p q e = e
            by t false true p q e = let z : true ≡ false = sym h ∙ ap v.done (eqb-true x t q) ∙ p in cc
            by t false false p q e = e

        new : v.done x ≡ false → Entering f I j m₀ (entered J x j (m + 1)) (m + 1) left
        unfolding same_class
        new h = record {
          done = λ t. v.done t || eqb x t;
          entries = entries_are (entered J x j (m + 1)) (m + 1) _ _ (λ t l. chain t (v.done t) (eqb x t) refl refl) (entered_chains J (entered J x j (m + 1)) x j m slot s (λ t. pick (v.done t) (j ∷ chain_at I t) (chain_at I t)) v.entries);
          all = λ t. or (v.done t) (eqb x t) (among t left) ∙ more t;
          few = omega (arith, v.few);
          size = s.size ∙ v.size;
          kept = s.kept ∙ v.kept;
        }
          where
            s : Stored J (entered J x j (m + 1)) x j (m + 1)
            s = stored J x j (m + 1) slot entry_room

            or : (a b c : Bool) → ((a || b) || c) ≡ (a || (b || c))
            or true b c = refl
            or false b c = refl

            chain : (t : ℕ) (a b : Bool) → v.done t ≡ a → eqb x t ≡ b → pick b (j ∷ pick a (j ∷ chain_at I t) (chain_at I t)) (pick a (j ∷ chain_at I t) (chain_at I t)) ≡ pick (a || b) (j ∷ chain_at I t) (chain_at I t)
            chain t true true p q = let z : true ≡ false = sym p ∙ ap v.done (sym (eqb-true x t q)) ∙ h in cc
            chain t true false p q = refl
            chain t false true p q = refl
            chain t false false p q = refl

        pub entering_next : (K : List ℕ) (n : ℕ) → (K ≡ entered_once J x j m) × (n ≡ entries_then J x j m) → Entering f I j m₀ K n left
        entering_next K n e = by (v.done x) refl
          where
            by : (b : Bool) → v.done x ≡ b → Entering f I j m₀ K n left
            by true h =
                let t : is_of J (head_at J x) j ≡ true = test ∙ h in
                let p : K ≡ J = e.0 ∙ rw t in
                let q : n ≡ m = e.1 ∙ rw t in
                rw (p, q) (there h)
            by false h =
                let t : is_of J (head_at J x) j ≡ false = test ∙ h in
                let p : K ≡ entered J x j (m + 1) = e.0 ∙ rw t in
                let q : n ≡ m + 1 = e.1 ∙ rw t in
                rw (p, q) (new h)

-- ---- the slots of its children, then its operator's

-- the slots of the children from the k-th of n on, beside that of the operator
abbrev pub slots_left : List ℕ → ℕ → ℕ → List ℕ
slots_left f n k = op_slot (op_of (row_of f)) ∷ map class_slot (items_at short_at 2 f (5 + 2 * k) (n - k))

module _ (f I : List ℕ) (j m₀ : ℕ) (room : RowRoom f I j m₀) where
  pub entering_all : (n : ℕ) → (n ≡ count_of f) × (n < 256) → Entering f I j m₀ I m₀ (slots_left f n 0)
  entering_all n c =
      let z : n - 0 ≡ count_of f = omega (arith, c.0) in
      let l : slots_left f n 0 ≡ slots_of (row_of f) = rw (row_children f, z) in
      rw l (entering_first f I j m₀ room)

  -- in another order
  swap : (J : List ℕ) (m x y : ℕ) (left : List ℕ) → Entering f I j m₀ J m (x ∷ y ∷ left) → Entering f I j m₀ J m (y ∷ x ∷ left)
  unfolding among
  swap J m x y left v = record {
    done = v.done;
    entries = v.entries;
    all = λ t. by (v.done t) (same_class x t) (same_class y t) (among t left) ∙ v.all t;
    few = v.few;
    size = v.size;
    kept = v.kept;
  }
    where
      by : (a b c d : Bool) → (a || (c || (b || d))) ≡ (a || (b || (c || d)))
      by true b c d = refl
      by false true true d = refl
      by false true false d = refl
      by false false true d = refl
      by false false false d = refl

  module _ (J : List ℕ) (m n k : ℕ) (v : Entering f I j m₀ J m (slots_left f n k)) where
    module _ (h : k < n) (x a : ℕ) (short : x ≡ short_at f (5 + 2 * k)) (wide : a ≡ x) where
      child_first : Entering f I j m₀ J m ((a % 512) ∷ slots_left f n (k + 1))
      child_first =
          let y : 5 + 2 * (k + 1) ≡ 5 + 2 * k + 2 = omega arith in
          let z : map class_slot (items_at short_at 2 f (5 + 2 * k) (n - k)) ≡ (a % 512) ∷ map class_slot (items_at short_at 2 f (5 + 2 * (k + 1)) (n - (k + 1))) = rw (items_more short_at 2 f (5 + 2 * k) k n h, y, wide, short) in
          swap J m (op_slot (op_of (row_of f))) (a % 512) (map class_slot (items_at short_at 2 f (5 + 2 * (k + 1)) (n - (k + 1)))) (rw z at v)

      pub child_room : EntryRoom J (m + 1)
      child_room = entry_room f I j m₀ room J m (a % 512) (slots_left f n (k + 1)) child_first

      pub entering_child : (K : List ℕ) (m' : ℕ) → (K ≡ entered_once J (a % 512) j m) × (m' ≡ entries_then J (a % 512) j m) → Entering f I j m₀ K m' (slots_left f n (k + 1))
      entering_child K m' e = entering_next f I j m₀ room J m (a % 512) (slots_left f n (k + 1)) child_first (omega arith) K m' e

    module _ (h : n ≤ k) (b a : ℕ) (byte : b ≡ get_or f 3 0) (wide : a ≡ b) (small : b < 256) where
      op_slot_lem : 512 + a ≡ op_slot (op_of (row_of f))
      op_slot_lem = rw (row_op f, ← byte) (omega (arith, wide, small))

      op_last : Entering f I j m₀ J m ((512 + a) ∷ [])
      op_last = let z : slots_left f n k ≡ (512 + a) ∷ [] = rw (items_none short_at 2 f (5 + 2 * k) k n h, op_slot_lem) in rw z at v

      pub op_room : EntryRoom J (m + 1)
      op_room = entry_room f I j m₀ room J m (512 + a) [] op_last

      pub entering_op : (K : List ℕ) (m' : ℕ) → (K ≡ entered_once J (512 + a) j m) × (m' ≡ entries_then J (512 + a) j m) → RowEntered f I j m₀ K m'
      entering_op K m' e = entering_end f I j m₀ room K m' (entering_next f I j m₀ room J m (512 + a) [] op_last (omega (arith, wide, small)) K m' e)
