-- "Lines of hexadecimal, one frame a line, each ended by byte 0a."
use Rattle.std.specs.Prelude.{Some, None}
use Rattle.std.specs.Prelude.{Option as OptionOf}
use Rattle.std.specs.Prelude.{ℕ, suc, ◌+◌, ◌-◌, ◌%◌, List, [], ◌∷◌, Bool, true, false, length, take, drop, eqb}
use Rattle.hexadecimal.specs.Choose.{pick}
use Rattle.hexadecimal.specs.Digits.{digit_value}

-- ---- a text's lines

-- the ended lines of a text, and what stands after the last 0a
pub record Split : Type 0 where
  pub ended : List (List ℕ)
  pub rest : List ℕ

-- one more line in front
abbrev pub with_line : List ℕ → Split → Split
with_line l s = record { ended = l ∷ s.ended; rest = s.rest }

-- one more byte in front of the first line, or of the rest where no line is ended
abbrev pub with_byte : ℕ → List (List ℕ) → List ℕ → Split
with_byte b [] r = record { ended = []; rest = b ∷ r }
with_byte b (l ∷ ls) r = record { ended = (b ∷ l) ∷ ls; rest = r }

unfoldable pub split : List ℕ → Split
split [] = record { ended = []; rest = [] }
split (b ∷ t) = let s = split t in pick (eqb b 10) (with_line [] s) (with_byte b s.ended s.rest)

-- ---- a line of digits

abbrev pub all_digits : List ℕ → Bool
all_digits [] = true
all_digits (b ∷ l) = pick (eqb (digit_value b) 16) false (all_digits l)

-- "no digits, odd digits, other byte": a line with none of these
abbrev pub is_hex : List ℕ → Bool
is_hex l = pick (eqb (length l) 0) false (pick (eqb (length l % 2) 0) (all_digits l) false)

-- ---- where a line ends

-- the place, counted from `at`, of the 0a that ends the first line, where that is a line of digits
abbrev pub hex_line_in : ℕ → List (List ℕ) → OptionOf ℕ
hex_line_in at [] = None
hex_line_in at (l ∷ ls) = pick (is_hex l) (Some (at + length l)) None

abbrev pub hex_line_of : ℕ → List ℕ → OptionOf ℕ
hex_line_of at t = hex_line_in at (split t).ended

-- the place, counted from `at`, of the first 0a, or of the text's end where there is none
abbrev pub end_of : ℕ → List ℕ → ℕ
end_of at [] = at
end_of at (b ∷ t) = pick (eqb b 10) at (end_of (suc at) t)

-- the line of the text x that begins at i
abbrev pub line_at : List ℕ → ℕ → List ℕ
line_at x i = take (end_of i (drop i x) - i) (drop i x)

-- the digits from `at` up to i are a whole line where 0a follows, and there are some, and their number is even
abbrev pub stopped_at : ℕ → ℕ → ℕ → OptionOf ℕ
stopped_at at i b = pick (eqb b 10) (pick (eqb (i - at) 0) None (pick (eqb ((i - at) % 2) 0) (Some i) None)) None
