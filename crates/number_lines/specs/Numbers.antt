-- A number of 64 bits on a line: 16 hexadecimal digits, the highest first, and byte 0a.
use Rattle.std.specs.Prelude.{Some, None}
use Rattle.std.specs.Prelude.{Option as OptionOf}
use Rattle.std.specs.Prelude.{ℕ, zero, suc, List, [], ◌∷◌, ltb, eqb, length, take, drop, Option, Some, None}
use Rattle.hexadecimal.specs.Choose.{pick}
use Rattle.hexadecimal.specs.Digits.{bytes_of, long_at}
use Rattle.hex_lines.specs.Lines.{hex_line_of}

-- the number of a line that ends where it was found to end
abbrev pub number_up_to : List ℕ → OptionOf ℕ → Option ℕ
number_up_to l (Some e) = pick (eqb e 16) (Some (long_at (bytes_of l) 0)) None
number_up_to l None = None

abbrev pub number_of : List ℕ → Option ℕ
number_of l = number_up_to l (hex_line_of 0 l)

-- a line's number before the others; nothing from another line on
abbrev pub before : Option ℕ → List ℕ → List ℕ
before (Some v) vs = v ∷ vs
before None vs = []

-- the numbers of the leading lines of a text, 17 bytes each, at most m
unfoldable pub numbers_of : ℕ → List ℕ → List ℕ
numbers_of zero x = []
numbers_of (suc m) x = pick (ltb (length x) 17) [] (before (number_of (take 17 x)) (numbers_of m (drop 17 x)))
