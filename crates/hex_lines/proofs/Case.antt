-- "Either letter case is read": a text in lower case has the same lines, of the same bytes. Assumes nothing.
use Prim.Native.Nat.{ℕ, ◌+◌, ◌-◌, ◌<◌, ◌≤◌}
use mathlib.Core.Path.{◌≡◌, refl}
use mathlib.Core.Bool.{Bool, true, false}
use mathlib.Core.List.{List, [], ◌∷◌, map}
use native.Mathlib.Omega.{arith}
use lib.ListN.{length}
use lib.Dec.{ltb, eqb}
use borrow.Author.Tests.{lt-ltb, le-ltb, ltb-true, ltb-false, ne_eqb}
use Rattle.hexadecimal.specs.Choose.{pick}
use Rattle.hexadecimal.specs.Digits.{digit_value, bytes_of}
use Rattle.hex_lines.specs.Lines.{with_byte, split, all_digits, is_hex}

-- A to F become a to f; any other byte stays
unfoldable pub lowered : ℕ → ℕ
lowered b = pick (ltb b 65) b (pick (ltb b 71) (b + 32) b)

value_by_lem : (b : ℕ) (s t : Bool) → ltb b 65 ≡ s → ltb b 71 ≡ t → digit_value (pick s b (pick t (b + 32) b)) ≡ digit_value b
value_by_lem b true t p q = refl
value_by_lem b false true p q =
    let g : 65 ≤ b = ltb-false b 65 p in
    let h : b < 71 = ltb-true b 71 q in
    let e : b + 32 - 87 ≡ b - 55 = omega arith in
    rw (
      le-ltb (b + 32) 48 (omega arith),
      le-ltb (b + 32) 58 (omega arith),
      le-ltb (b + 32) 65 (omega arith),
      le-ltb (b + 32) 71 (omega arith),
      le-ltb (b + 32) 97 (omega arith),
      lt-ltb (b + 32) 103 (omega arith),
      le-ltb b 48 (omega arith),
      le-ltb b 58 (omega arith),
      p,
      q,
      e,
    )
value_by_lem b false false p q = refl

pub value_lowered : (b : ℕ) → digit_value (lowered b) ≡ digit_value b
unfolding lowered
value_lowered b = value_by_lem b (ltb b 65) (ltb b 71) refl refl

end_by : (b : ℕ) (s t : Bool) → ltb b 65 ≡ s → ltb b 71 ≡ t → eqb (pick s b (pick t (b + 32) b)) 10 ≡ eqb b 10
end_by b true t p q = refl
end_by b false true p q =
    let g : 65 ≤ b = ltb-false b 65 p in
    rw (ne_eqb (b + 32) 10 (λ e. omega arith), ne_eqb b 10 (λ e. omega arith))
end_by b false false p q = refl

pub end_lowered : (b : ℕ) → eqb (lowered b) 10 ≡ eqb b 10
unfolding lowered
end_lowered b = end_by b (ltb b 65) (ltb b 71) refl refl

-- a text in lower case
abbrev pub lower : List ℕ → List ℕ
lower t = map lowered t

pub bytes_lower : (l : List ℕ) → bytes_of (lower l) ≡ bytes_of l
bytes_lower [] = refl
bytes_lower (a ∷ []) = refl
bytes_lower (a ∷ b ∷ l) = rw (value_lowered a, value_lowered b, bytes_lower l)

pub length_lower : (l : List ℕ) → length (lower l) ≡ length l
length_lower [] = refl
length_lower (b ∷ l) = rw (length_lower l)

digits_lower : (l : List ℕ) → all_digits (lower l) ≡ all_digits l
digits_lower [] = refl
digits_lower (b ∷ l) = rw (value_lowered b, digits_lower l)

pub hex_lower : (l : List ℕ) → is_hex (lower l) ≡ is_hex l
hex_lower l = rw (length_lower l, digits_lower l)

byte_more : (b : ℕ) (es : List (List ℕ)) (r : List ℕ) → with_byte (lowered b) (map lower es) (lower r) ≡ record { ended = map lower (with_byte b es r).ended; rest = lower (with_byte b es r).rest }
byte_more b [] r = refl
byte_more b (m ∷ ms) r = refl

split_by : (b : ℕ) (t : List ℕ) (d : Bool) → eqb b 10 ≡ d → split (lower t) ≡ record { ended = map lower (split t).ended; rest = lower (split t).rest } → split (lower (b ∷ t)) ≡ record { ended = map lower (split (b ∷ t)).ended; rest = lower (split (b ∷ t)).rest }
unfolding split
split_by b t true e f = rw (end_lowered b, e, f)
split_by b t false e f = rw (end_lowered b, e, f) (byte_more b (split t).ended (split t).rest)

pub split_lower : (t : List ℕ) → split (lower t) ≡ record { ended = map lower (split t).ended; rest = lower (split t).rest }
unfolding split
split_lower [] = refl
split_lower (b ∷ t) = split_by b t (eqb b 10) refl (split_lower t)
