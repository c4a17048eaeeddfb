-- A line, digit by digit. Assumes nothing.
use Prim.Native.Nat.{ℕ, suc, ◌+◌, ◌*◌, ◌/◌, ◌%◌, ◌<◌, ◌≤◌}
use mathlib.Core.Path.{◌≡◌, sym, ap, ◌∙◌}
use mathlib.Core.List.{List, [], ◌∷◌, ◌++◌, append-nil}
use native.Mathlib.Omega.{arith}
use lib.ListN.{length, take, drop, set, length-set, drop_of_length-le}
use lib.Seq.{take-suc-set, take_all}
use Rattle.hexadecimal.specs.Digits.{digits_of}
use Rattle.std.specs.Int.{w32, w64, to_be_bytes}
use Rattle.answer_lines.specs.Lines.{line_of, end_line}

-- the digits of the first i bytes of f stand in p
pub record Put (f p : List ℕ) (i : ℕ) : Type 0 where
  pub few : i ≤ length f
  pub size : length p ≡ 2 * length f + 1
  pub is : take (2 * i) p ++ digits_of (drop i f) ≡ digits_of f

module _ (f p : List ℕ) (i : ℕ) (s : Put f p i) where
  pub put_all : length f ≤ i → set p (2 * length f) 10 ≡ line_of f
  unfolding line_of
  put_all h =
      let e : length f ≡ i = omega (arith, s.few) in
      let w : take (2 * i) p ++ [] ≡ digits_of f = rw (drop_of_length-le f h) at s.is in
      let q : 2 * i < length p = omega (arith, s.size, s.few) in
      rw e (sym (take_all (suc (2 * i)) (set p (2 * i) 10) (omega (arith, length-set p (2 * i) 10, s.size, s.few)))
      ∙ take-suc-set p (2 * i) 10 q
      ∙ ap (λ (r : List ℕ). r ++ (10 ∷ [])) (sym (append-nil (take (2 * i) p)) ∙ w))

pub end_lined : (s t m : ℕ) → line_of (0x51 ∷ 0 ∷ 0 ∷ s ∷ to_be_bytes w64 t ++ to_be_bytes w32 (m % 0x1_0000_0000)) ≡ end_line s t m
end_lined s t m =
    let a : m % 0x1_0000_0000 / 0x100_0000 % 0x100 ≡ m / 0x100_0000 % 0x100 = omega arith in
    let b : m % 0x1_0000_0000 / 0x1_0000 % 0x100 ≡ m / 0x1_0000 % 0x100 = omega arith in
    let c : m % 0x1_0000_0000 / 0x100 % 0x100 ≡ m / 0x100 % 0x100 = omega arith in
    let d : m % 0x1_0000_0000 % 0x100 ≡ m % 0x100 = omega arith in
    rw (a, b, c, d)
