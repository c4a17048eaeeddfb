-- One more entry in one slot, and a row in each of its slots. Assumes nothing.
use Prim.Native.Nat.{ℕ, zero, suc, ◌+◌, ◌*◌, ◌<◌, ◌≤◌}
use mathlib.Core.Path.{◌≡◌, refl, sym, ◌∙◌}
use mathlib.Core.Bool.{Bool, true, false}
use mathlib.Core.List.{List, ◌∷◌}
use native.Mathlib.Omega.{arith}
use lib.ListN.{length, get_or, take, set, length-set}
use lib.Seq.{get_or-set_same, get_or-set_other, take-set-le}
use lib.Dec.{eqb}
use borrow.Author.Tests.{eq-eqb, ne_eqb, eqb-true, eqb-false}
use Rattle.hexadecimal.specs.Choose.{pick}
use Rattle.buckets.specs.RowIndex.{heads_at, row_slots, entries_at, head_at, row_at, next_at, chain_from, chain_at}
use Rattle.buckets.proofs.IndexLaws.{chain_more}
use Rattle.row_indexing.specs.Filling.{is_of, entered, entered_once, entries_then, EntryRoom, Entries}

-- ---- whose an entry is

module _ (i : List ℕ) (e j : ℕ) where
  pub of_none : e ≡ 0 → false ≡ is_of i e j
  of_none h = rw (eq-eqb _ _ h)

  pub of_some : (e ≡ 0 → ⊥) → (a r : ℕ) → a ≡ e → r ≡ row_at i a → eqb r j ≡ is_of i e j
  of_some h a r p q = rw (ne_eqb _ _ h, q, p)

-- ---- it is entered once

module _ (i : List ℕ) (t j m : ℕ) (b : Bool) (test : b ≡ is_of i (head_at i t) j) where
  pub there_kept : b ≡ true → i ≡ entered_once i t j m
  there_kept h = rw (← test, h)

  pub there_same : b ≡ true → m ≡ entries_then i t j m
  there_same h = rw (← test, h)

  pub new_entered : b ≡ false → entered i t j (m + 1) ≡ entered_once i t j m
  new_entered h = rw (← test, h)

  pub new_more : b ≡ false → m + 1 ≡ entries_then i t j m
  new_more h = rw (← test, h)

-- ---- what is stored

pub record Stored (i J : List ℕ) (t j e : ℕ) : Type 0 where
  pub head : head_at J t ≡ e
  pub heads : (u : ℕ) → u < row_slots → (u ≡ t → ⊥) → head_at J u ≡ head_at i u
  pub row : row_at J e ≡ j
  pub rows : (d : ℕ) → (d ≡ e → ⊥) → row_at J d ≡ row_at i d
  pub next : next_at J e ≡ head_at i t
  pub nexts : (d : ℕ) → (d ≡ e → ⊥) → next_at J d ≡ next_at i d
  pub size : length J ≡ length i
  pub kept : take heads_at J ≡ take heads_at i

module _ (i : List ℕ) (t j e : ℕ) (slot : t < row_slots) (room : EntryRoom i e) where
  abbrev one : List ℕ
  one = set i (entries_at + 2 * e) j

  abbrev two : List ℕ
  two = set one (entries_at + 2 * e + 1) (head_at i t)

  long_one : length one ≡ length i
  long_one = length-set i (entries_at + 2 * e) j

  long_two : length two ≡ length i
  long_two = length-set one (entries_at + 2 * e + 1) (head_at i t) ∙ long_one

  pub head_still : heads_at + t < length two
  head_still = omega (arith, long_two, room.room)

  -- a number that is none of the three
  other : (k : ℕ) → (k ≡ heads_at + t → ⊥) → (k ≡ entries_at + 2 * e → ⊥) → (k ≡ entries_at + 2 * e + 1 → ⊥) → get_or (entered i t j e) k 0 ≡ get_or i k 0
  other k a b c = get_or-set_other two (heads_at + t) k e 0 a ∙ get_or-set_other one (entries_at + 2 * e + 1) k (head_at i t) 0 c ∙ get_or-set_other i (entries_at + 2 * e) k j 0 b

  pub stored : Stored i (entered i t j e) t j e
  stored = record {
    head = get_or-set_same two (heads_at + t) e 0 head_still;
    heads = λ u h z. other (heads_at + u) (λ q. z (omega arith)) (λ q. omega arith) (λ q. omega arith);
    row =
        get_or-set_other two (heads_at + t) (entries_at + 2 * e) e 0 (λ q. omega arith)
        ∙ get_or-set_other one (entries_at + 2 * e + 1) (entries_at + 2 * e) (head_at i t) 0 (λ q. omega arith)
        ∙ get_or-set_same i (entries_at + 2 * e) j 0 (omega (arith, room.room));
    rows = λ d z. other (entries_at + 2 * d) (λ q. omega arith) (λ q. z (omega arith)) (λ q. omega arith);
    next =
        get_or-set_other two (heads_at + t) (entries_at + 2 * e + 1) e 0 (λ q. omega arith)
        ∙ get_or-set_same one (entries_at + 2 * e + 1) (head_at i t) 0 (omega (arith, long_one, room.room));
    nexts = λ d z. other (entries_at + 2 * d + 1) (λ q. omega arith) (λ q. omega arith) (λ q. z (omega arith));
    size = length-set two (heads_at + t) e ∙ long_two;
    kept =
        take-set-le heads_at two (heads_at + t) e (omega arith)
        ∙ take-set-le heads_at one (entries_at + 2 * e + 1) (head_at i t) (omega arith)
        ∙ take-set-le heads_at i (entries_at + 2 * e) j (omega arith);
  }

-- ---- the chains with it

module _ (i J : List ℕ) (t j m : ℕ) (slot : t < row_slots) (s : Stored i J t j (m + 1)) (chains : ℕ → List ℕ) (x : Entries i m chains) where
  -- those that begin before it
  chain_same : (n d : ℕ) → d ≤ m → chain_from J n d ≡ chain_from i n d
  unfolding chain_from
  chain_same zero d l = refl
  chain_same (suc n) zero l = refl
  chain_same (suc n) (suc d) l =
      let h = x.falling (suc d) (omega arith) in
      rw (s.rows (suc d) (λ q. omega arith), s.nexts (suc d) (λ q. omega arith), chain_same n (next_at i (suc d)) (omega arith))

  falls : (e : ℕ) → 0 < e → next_at J e < e
  falls e h = by (eqb e (m + 1)) refl
    where
      by : (b : Bool) → eqb e (m + 1) ≡ b → next_at J e < e
      by true q = let z : e ≡ m + 1 = eqb-true e (m + 1) q in rw (z, s.next) (omega (arith, x.heads t slot))
      by false q = rw (s.nexts e (eqb-false e (m + 1) q)) (x.falling e h)

  chain_first : chain_at J t ≡ j ∷ chains t
  chain_first =
      let a : chain_at J t ≡ chain_from J (m + 1) (m + 1) = rw s.head in
      let c : chain_from J (head_at i t) (head_at i t) ≡ chains t = chain_same (head_at i t) (head_at i t) (x.heads t slot) ∙ x.are t slot in
      a ∙ chain_more J falls (m + 1) (λ q. omega arith) ∙ rw (s.row, s.next, c)

  pub entered_chains : Entries J (m + 1) (λ u. pick (eqb t u) (j ∷ chains u) (chains u))
  entered_chains = record { falling = falls; heads = λ u h. heads u h (eqb u t) refl; are = λ u h. are u h (eqb t u) refl }
    where
      heads : (u : ℕ) → u < row_slots → (b : Bool) → eqb u t ≡ b → head_at J u ≤ m + 1
      heads u h true q = rw (eqb-true u t q, s.head) (omega arith)
      heads u h false q = rw (s.heads u h (eqb-false u t q)) (omega (arith, x.heads u h))

      are : (u : ℕ) → u < row_slots → (b : Bool) → eqb t u ≡ b → chain_at J u ≡ pick b (j ∷ chains u) (chains u)
      are u h true q = rw (← (eqb-true t u q)) chain_first
      are u h false q =
          let z = eqb-false t u q in
          let e : head_at J u ≡ head_at i u = s.heads u h (λ y. z (sym y)) in
          rw e (chain_same (head_at i u) (head_at i u) (x.heads u h) ∙ x.are u h)
