-- A set of classes with one class more. Proved bit by bit.
use Prim.Native.Nat.{ℕ, ◌+◌, ◌-◌, ◌*◌, ◌/◌, ◌%◌, ◌^◌, ◌<◌, ◌≤◌}
use mathlib.Core.Path.{◌≡◌, refl, sym, ◌∙◌, ap}
use mathlib.Core.Bool.{Bool, true, false}
use mathlib.Core.List.{List}
use native.Mathlib.Nat.{add-mul-div_right, div-eq_of_lt, one-mul, mod-lt}
use native.Mathlib.Omega.{arith}
use lib.Dec.{ltb, eqb}
use lib.ListN.{length, get_or, set, length-set, get_or-eq_default}
use lib.Pow.{pow_pos, pow-add, shr-shr, shl_exact, split}
use lib.Seq.{get_or-set_same, get_or-set_other}
use borrow.Author.Tests.{eq-eqb, ne_eqb, eqb-true, eqb-false, ltb-true, ltb-false}
use Rattle.fields.specs.Choose.{pick}
use Rattle.class_sets.specs.Sets.{set_words, has_bit, with_bit, has_class, with_class}

-- ---- bits

no_bit : (b : ℕ) → has_bit 0 b ≡ false
no_bit b = ne_eqb (0 / 2 ^ b % 2) 1 (λ e. omega (arith, e, div-eq_of_lt (pow_pos b)))

-- a bit that is not there, and the word with it
module _ (w b : ℕ) (h : has_bit w b ≡ false) where
  even : w / 2 ^ b % 2 ≡ 0
  even = omega (arith, eqb-false (w / 2 ^ b % 2) 1 h)

  one_more : (w + 2 ^ b) / 2 ^ b ≡ w / 2 ^ b + 1
  one_more = rw (one-mul (2 ^ b)) at (add-mul-div_right w 1 (pow_pos b))

  above : (k : ℕ) → b < k → (w + 2 ^ b) / 2 ^ k ≡ w / 2 ^ k
  above k l =
      let e : b + 1 + (k - (b + 1)) ≡ k = omega arith in
      let half : (w + 2 ^ b) / 2 ^ b / 2 ^ 1 ≡ w / 2 ^ b / 2 ^ 1 = omega (arith, one_more, even) in
      let s : (w + 2 ^ b) / 2 ^ (b + 1) ≡ w / 2 ^ (b + 1) = sym (shr-shr (w + 2 ^ b) b 1) ∙ half ∙ shr-shr w b 1 in
      ap (λ (x : ℕ). (w + 2 ^ b) / 2 ^ x) (sym e)
      ∙ sym (shr-shr (w + 2 ^ b) (b + 1) (k - (b + 1)))
      ∙ ap (λ (x : ℕ). x / 2 ^ (k - (b + 1))) s
      ∙ shr-shr w (b + 1) (k - (b + 1))
      ∙ ap (λ (x : ℕ). w / 2 ^ x) e

  below : (k : ℕ) → k < b → (w + 2 ^ b) / 2 ^ k % 2 ≡ w / 2 ^ k % 2
  below k l =
      let e : 2 ^ b ≡ 2 ^ (b - (k + 1)) * 2 * 2 ^ k = parts in
      let m : (w + 2 ^ b) / 2 ^ k ≡ w / 2 ^ k + 2 ^ (b - (k + 1)) * 2 = ap (λ (x : ℕ). (w + x) / 2 ^ k) e ∙ add-mul-div_right w (2 ^ (b - (k + 1)) * 2) (pow_pos k) in
      omega (arith, m)
    where
      parts : 2 ^ b ≡ 2 ^ (b - (k + 1)) * 2 * 2 ^ k
      parts =
          let s : b ≡ (b - (k + 1)) + 1 + k = omega arith in
          ap (λ (x : ℕ). 2 ^ x) s ∙ pow-add 2 ((b - (k + 1)) + 1) k ∙ ap (λ (x : ℕ). x * 2 ^ k) (pow-add 2 (b - (k + 1)) 1)

  -- it fits a word of as many bits
  pub fits : (n : ℕ) → b < n → w < 2 ^ n → w + 2 ^ b < 2 ^ n
  fits n l m =
      let z : (w + 2 ^ b) / 2 ^ n ≡ 0 = above n l ∙ div-eq_of_lt m in
      let s : 0 * 2 ^ n + (w + 2 ^ b) % 2 ^ n ≡ w + 2 ^ b = rw z at (split (w + 2 ^ b) n) in
      omega (arith, s, mod-lt (w + 2 ^ b) (pow_pos n))

-- the bit k of the word with the bit b
bit_more : (w b k : ℕ) → has_bit (with_bit w b) k ≡ pick (eqb k b) true (has_bit w k)
bit_more w b k = go (has_bit w b) refl (eqb k b) refl
  where
    go : (t : Bool) → has_bit w b ≡ t → (s : Bool) → eqb k b ≡ s → has_bit (pick t w (w + 2 ^ b)) k ≡ pick s true (has_bit w k)
    go true p true q = rw (eqb-true k b q) p
    go true p false q = refl
    go false p true q = rw (eqb-true k b q) (eq-eqb ((w + 2 ^ b) / 2 ^ b % 2) 1 (omega (arith, one_more w b p, even w b p)))
    go false p false q = ap (λ (x : ℕ). eqb x 1) (other (ltb k b) refl)
      where
        other : (u : Bool) → ltb k b ≡ u → (w + 2 ^ b) / 2 ^ k % 2 ≡ w / 2 ^ k % 2
        other true l = below w b p k (ltb-true k b l)
        other false l = ap (λ (x : ℕ). x % 2) (above w b p k (omega (arith, ltb-false k b l, eqb-false k b q)))

-- ---- classes

-- classes of one word are told apart by their bits
by_bit : (c d : ℕ) → c / 64 ≡ d / 64 → eqb (c % 64) (d % 64) ≡ eqb c d
by_bit c d p = go (eqb c d) refl
  where
    go : (s : Bool) → eqb c d ≡ s → eqb (c % 64) (d % 64) ≡ s
    go true q = eq-eqb (c % 64) (d % 64) (omega (arith, eqb-true c d q))
    go false q = ne_eqb (c % 64) (d % 64) (λ e. eqb-false c d q (omega arith))

-- the set with the class d, at any class c
pub class_more : (B : List ℕ) (c d : ℕ) → length B ≡ set_words → d < 65536 → has_class (with_class B d) c ≡ pick (eqb c d) true (has_class B c)
unfolding has_class with_class
class_more B c d n h = go (eqb (c / 64) (d / 64)) refl
  where
    go : (s : Bool) → eqb (c / 64) (d / 64) ≡ s → has_bit (get_or (set B (d / 64) (with_bit (get_or B (d / 64) 0) (d % 64))) (c / 64) 0) (c % 64) ≡ pick (eqb c d) true (has_bit (get_or B (c / 64) 0) (c % 64))
    go true q =
        let e : c / 64 ≡ d / 64 = eqb-true (c / 64) (d / 64) q in
        rw (e, get_or-set_same B (d / 64) (with_bit (get_or B (d / 64) 0) (d % 64)) 0 (omega arith), ← by_bit c d e) (bit_more (get_or B (d / 64) 0) (d % 64) (c % 64))
    go false q =
        let e : c / 64 ≡ d / 64 → ⊥ = eqb-false (c / 64) (d / 64) q in
        rw (get_or-set_other B (d / 64) (c / 64) (with_bit (get_or B (d / 64) 0) (d % 64)) 0 e, ne_eqb c d (λ p. e (rw p)))

pub same_words : (B : List ℕ) (d : ℕ) → length (with_class B d) ≡ length B
unfolding with_class
same_words B d = length-set B (d / 64) (with_bit (get_or B (d / 64) 0) (d % 64))

-- where every word is 0 there is no class
pub no_class : (B : List ℕ) → ((i : ℕ) → get_or B i 0 ≡ 0) → (c : ℕ) → has_class B c ≡ false
unfolding has_class
no_class B z c = rw (z (c / 64)) (no_bit (c % 64))

-- ---- the ways through the code

pub bit_there : (w b : ℕ) (r : Bool) → r ≡ has_bit w b → r ≡ true → w ≡ with_bit w b
bit_there w b r p q = rw (← p, q)

-- the bit by itself, as it is shifted
shifted : (b : ℕ) → b < 64 → 1 * 2 ^ b % 2 ^ 64 ≡ 2 ^ b
shifted b l = shl_exact {a = 1} 1 b 64 (omega arith) (omega arith) ∙ one-mul (2 ^ b)

module _ (w b : ℕ) (l : b < 64) (r : Bool) (p : r ≡ has_bit w b) (q : r ≡ false) where
  pub bit_fits : w < 2 ^ 64 → w + 1 * 2 ^ b % 2 ^ 64 < 2 ^ 64
  bit_fits m = rw (shifted b l) (fits w b (sym p ∙ q) 64 l m)

  pub bit_new : w + 1 * 2 ^ b % 2 ^ 64 ≡ with_bit w b
  bit_new = rw (shifted b l, ← p, q)

module _ (B : List ℕ) (d c : ℕ) (p : c ≡ d) where
  pub class_past : length B ≤ c / 64 → false ≡ has_class B d
  unfolding has_class
  class_past h = rw (← p, get_or-eq_default B 0 h) (sym (no_bit (c % 64)))

  pub class_here : (r : Bool) → r ≡ has_bit (get_or B (c / 64) 0) (c % 64) → r ≡ has_class B d
  unfolding has_class
  class_here r e = e ∙ rw p

  pub class_added : (w : ℕ) → w ≡ with_bit (get_or B (c / 64) 0) (c % 64) → set B (c / 64) w ≡ with_class B d
  unfolding with_class
  class_added w e = rw (e, p)
