-- Keys as numbers, and the memo from its latest entry on. Proved by the places of a number, and by induction on how many are left.
use Prim.Native.Nat.{ℕ, zero, suc, ◌+◌, ◌-◌, ◌/◌, ◌%◌, ◌<◌, ◌≤◌}
use mathlib.Core.Path.{◌≡◌, refl, sym, ◌∙◌}
use mathlib.Core.Bool.{Bool, true, false}
use mathlib.Core.List.{List, ◌∷◌}
use native.Mathlib.Omega.{arith}
use lib.Dec.{eqb}
use lib.ListN.{length, get_or, set}
use lib.Seq.{get_or-set_same, get_or-set_other}
use native.Mathlib.Numerals.{add-one}
use borrow.Author.Tests.{eqb-true, lt-ltb, le-ltb}
use Rattle.measure.specs.Choose.{pick}
use Rattle.plan_facts.proofs.Bools.{first, second}
use Rattle.plan_facts.specs.Sampling.{same_key, is_known}
use Rattle.plan_facts.specs.Memo.{unpack_key, entry_key, memo_at}
use Rattle.plan_facts.proofs.Remembered.{same_self}
use Rattle.memo_entries.specs.Remembered.{Placed}

-- a number is what stands above its lowest byte, and that byte
byte_same : (a b : ℕ) → a / 256 ≡ b / 256 → a % 256 ≡ b % 256 → a ≡ b
byte_same a b h g = omega arith

above_4 : (k : ℕ) → k / 4294967296 / 256 ≡ k / 1099511627776
above_4 k = omega arith

above_3 : (k : ℕ) → k / 16777216 / 256 ≡ k / 4294967296
above_3 k = omega arith

above_2 : (k : ℕ) → k / 65536 / 256 ≡ k / 16777216
above_2 k = omega arith

above_1 : (k : ℕ) → k / 256 / 256 ≡ k / 65536
above_1 k = omega arith

-- two numbers of the same key are the same
same_number : (m n : ℕ) → same_key (unpack_key m) (unpack_key n) ≡ true → m ≡ n
same_number m n h =
    let h1 = second (eqb (m / 1099511627776) (n / 1099511627776)) _ h in
    let h2 = second (eqb (m / 4294967296 % 256) (n / 4294967296 % 256)) _ h1 in
    let h3 = second (eqb (m / 16777216 % 256) (n / 16777216 % 256)) _ h2 in
    let h4 = second (eqb (m / 65536 % 256) (n / 65536 % 256)) _ h3 in
    let p : m / 1099511627776 ≡ n / 1099511627776 = eqb-true _ _ (first _ _ h) in
    let q : m / 4294967296 % 256 ≡ n / 4294967296 % 256 = eqb-true _ _ (first _ _ h1) in
    let r : m / 16777216 % 256 ≡ n / 16777216 % 256 = eqb-true _ _ (first _ _ h2) in
    let s : m / 65536 % 256 ≡ n / 65536 % 256 = eqb-true _ _ (first _ _ h3) in
    let t : m / 256 % 256 ≡ n / 256 % 256 = eqb-true _ _ (first _ _ h4) in
    let u : m % 256 ≡ n % 256 = eqb-true _ _ (second (eqb (m / 256 % 256) (n / 256 % 256)) _ h4) in
    let g4 = byte_same (m / 4294967296) (n / 4294967296) (above_4 m ∙ p ∙ sym (above_4 n)) q in
    let g3 = byte_same (m / 16777216) (n / 16777216) (above_3 m ∙ g4 ∙ sym (above_3 n)) r in
    let g2 = byte_same (m / 65536) (n / 65536) (above_2 m ∙ g3 ∙ sym (above_2 n)) s in
    let g1 = byte_same (m / 256) (n / 256) (above_1 m ∙ g2 ∙ sym (above_1 n)) t in
    byte_same m n g1 u

other_number : (m n : ℕ) → (m ≡ n → ⊥) → same_key (unpack_key n) (unpack_key m) ≡ false
other_number m n z = by (same_key (unpack_key n) (unpack_key m)) refl
  where
    by : (t : Bool) → same_key (unpack_key n) (unpack_key m) ≡ t → t ≡ false
    by true h = absurd (z (sym (same_number n m h)))
    by false h = refl

-- none of those from i on is the key: the first i decide as the first m do
pub record Searching (ks : List ℕ) (m key i : ℕ) : Type 0 where
  pub few : i ≤ m
  pub is : is_known (memo_at ks i) (unpack_key key) ≡ is_known (memo_at ks m) (unpack_key key)

pub searching_all : (ks : List ℕ) (m key : ℕ) → Searching ks m key m
searching_all ks m key = record { few = omega arith; is = refl }

module _ (ks : List ℕ) (m key i : ℕ) (s : Searching ks m key i) where
  one_less : 0 < i → pick (same_key (unpack_key key) (entry_key (get_or ks (i - 1) 0))) true (is_known (memo_at ks (i - 1)) (unpack_key key)) ≡ is_known (memo_at ks m) (unpack_key key)
  unfolding is_known memo_at
  one_less h =
      let e : i ≡ suc (i - 1) = omega arith in
      rw e at s.is

  pub searching_found : 0 < i → get_or ks (i - 1) 0 / 2 ≡ key → Placed ks m key (i - 1)
  searching_found h e =
      let l : i - 1 < m = omega (arith, s.few) in
      record { few = omega arith; known = rw (lt-ltb (i - 1) m l) (sym (rw (e, same_self (unpack_key key)) at (one_less h))); is = λ g. e }

  pub searching_again : 0 < i → (get_or ks (i - 1) 0 / 2 ≡ key → ⊥) → Searching ks m key (i - 1)
  searching_again h z = record { few = omega (arith, s.few); is = rw (other_number (get_or ks (i - 1) 0 / 2) key z) at (one_less h) }

  pub searching_none : i ≤ 0 → Placed ks m key m
  unfolding is_known memo_at
  searching_none h =
      let e : i ≡ 0 = omega arith in
      let l : m ≤ m = omega arith in
      record { few = l; known = rw (le-ltb m m l) (sym (rw e at s.is)); is = λ g. absurd (omega arith) }

-- ---- one key more

memo_below : (ks : List ℕ) (c key i : ℕ) → i ≤ c → memo_at (set ks c key) i ≡ memo_at ks i
unfolding memo_at
memo_below ks c key zero h = refl
memo_below ks c key (suc i) h = rw (get_or-set_other ks c i key 0 (λ e. absurd (omega arith)), memo_below ks c key i (omega arith))

pub memo_more : (ks : List ℕ) (c key : ℕ) → c < length ks → memo_at (set ks c key) (c + 1) ≡ entry_key key ∷ memo_at ks c
unfolding memo_at
memo_more ks c key h = rw (add-one c, get_or-set_same ks c key 0 h, memo_below ks c key c (omega arith))
