-- The numbers of a text, line by line. Assumes nothing.
use Rattle.std.specs.Prelude.{Some}
use Rattle.std.specs.Prelude.{Option as OptionOf}
use Prim.Native.Nat.{ℕ, zero, suc, ◌+◌, ◌-◌, ◌*◌, ◌<◌, ◌≤◌}
use mathlib.Core.Path.{◌≡◌, sym, ◌∙◌, ap}
use mathlib.Core.List.{List, [], ◌∷◌, ◌++◌, append_assoc, append-nil}
use native.Mathlib.Omega.{arith}
use native.Mathlib.Numerals.{add-one, unary_clauses}
use lib.ListN.{length, take, drop, set, length-set, length-drop}
use lib.Seq.{take-suc-set, take_all, drop-drop}
use lib.Dec.{ltb}
use borrow.Author.Tests.{lt-ltb, le-ltb}
use Rattle.hexadecimal.specs.Choose.{pick}
use Rattle.hexadecimal.specs.Digits.{bytes_of, long_at}
use Rattle.hex_lines.specs.Lines.{hex_line_of}
use Rattle.hex_lines.specs.Decoding.{Decodes}
use Rattle.hexadecimal.proofs.Bytes.{bytes_length, bytes_take}
use Rattle.number_lines.specs.Numbers.{number_of, before, numbers_of}
use Rattle.std.specs.Prelude.{Option, Some, None}

-- ---- one line: 17 bytes l, decoded onto s, which is s' then

module _ (l s s' : List ℕ) (f : OptionOf ℕ) (d : Decodes l 0 s 0 s' f) where
  module _ (e : ℕ) (h : f ≡ Some e) where
    found : hex_line_of 0 l ≡ Some e
    found = sym d.is ∙ h

    pub number_read : e ≡ 16 → length l ≡ 17 → length s ≡ 8 → (v : ℕ) → v ≡ long_at s' 0 → Some v ≡ number_of l
    number_read n a b v q =
        let p : hex_line_of 0 l ≡ Some 16 = rw n at found in
        let y : take 8 s' ≡ bytes_of (take 16 l) = d.laid 16 (rw n at h) in
        let u : take 8 s' ≡ s' = take_all 8 s' (omega (arith, d.same)) in
        let w : take 8 (bytes_of l) ≡ bytes_of l = take_all 8 (bytes_of l) (omega (arith, bytes_length l)) in
        let z : s' ≡ bytes_of l = sym u ∙ y ∙ bytes_take 8 l ∙ w in
        rw (p, ← z, q)

-- ---- the lines in turn

-- n lines were read into p, which is o before, and with those behind them give what all give
pub record Walks (x o p : List ℕ) (n : ℕ) : Type 0 where
  pub size : length p ≡ length o
  pub few : n ≤ length o
  pub fits : 17 * n ≤ length x
  pub is : take n p ++ numbers_of (length o - n) (drop (17 * n) x) ≡ numbers_of (length o) x

one_line : (m : ℕ) (x : List ℕ) → 0 < m → numbers_of m x ≡ pick (ltb (length x) 17) [] (before (number_of (take 17 x)) (numbers_of (m - 1) (drop 17 x)))
unfolding numbers_of
one_line zero x h = absurd (omega arith)
one_line (suc m) x h = simp unary_clauses

module _ (x o p : List ℕ) (n : ℕ) (w : Walks x o p n) where
  ended : numbers_of (length o - n) (drop (17 * n) x) ≡ [] → take n p ≡ numbers_of (length o) x
  ended e = sym (append-nil (take n p)) ∙ ap (λ (l : List ℕ). take n p ++ l) (sym e) ∙ w.is

  pub array_full : length o ≤ n → take (length p) p ≡ numbers_of (length o) x
  unfolding numbers_of
  array_full h = let e : length o - n ≡ 0 = omega arith in let z : length p ≡ n = omega (arith, w.size, w.few) in rw z (ended (rw e))

  module _ (h : n < length o) where
    more : 0 < length o - n
    more = omega arith

    pub text_ends : length x - 17 * n < 17 → take n p ≡ numbers_of (length o) x
    text_ends l = ended (one_line _ _ more ∙ rw (length-drop (17 * n) x, lt-ltb _ _ l))

    module _ (l : 17 ≤ length x - 17 * n) (v : Option ℕ) (is : v ≡ number_of (take (17 * n + 17 - 17 * n) (drop (17 * n) x))) where
      line_is : number_of (take 17 (drop (17 * n) x)) ≡ v
      line_is = let e : 17 * n + 17 - 17 * n ≡ 17 = omega arith in sym (rw e at is)

      pub other_line : v ≡ None → take n p ≡ numbers_of (length o) x
      other_line e = ended (one_line _ _ more ∙ rw (length-drop (17 * n) x, le-ltb _ _ l, line_is, e))

      pub line_read : (k : ℕ) → v ≡ Some k → Walks x o (set p n k) (n + 1)
      line_read k e =
          let a : length o - n - 1 ≡ length o - (n + 1) = omega arith in
          let b : 17 * n + 17 ≡ 17 * (n + 1) = omega arith in
          let s : numbers_of (length o - n) (drop (17 * n) x) ≡ k ∷ numbers_of (length o - (n + 1)) (drop (17 * (n + 1)) x) = one_line _ _ more ∙ rw (length-drop (17 * n) x, le-ltb _ _ l, line_is, e, drop-drop 17 (17 * n) x, a, b) in
          record {
            size = length-set p n k ∙ w.size;
            few = omega (arith, w.size);
            fits = omega arith;
            is = rw (add-one n, take-suc-set p n k (omega (arith, w.size)), append_assoc, ← add-one n, ← s) w.is;
          }
