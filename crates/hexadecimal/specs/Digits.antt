-- "Lines of hexadecimal .. Either letter case is read, lower case written .. fields are one byte, big-endian if wider."
use Rattle.std.specs.Prelude.{ℕ, ◌+◌, ◌-◌, ◌*◌, ◌/◌, ◌%◌, List, [], ◌∷◌, get_or, ltb}
use Rattle.base.specs.Choose.{pick}

-- ---- reading

-- what a byte counts as a digit: 0 to 9, A to F, a to f; 16 for any other byte
abbrev pub digit_value : ℕ → ℕ
digit_value b =
    pick (ltb b 48) 16
    (pick (ltb b 58) (b - 48)
    (pick (ltb b 65) 16
    (pick (ltb b 71) (b - 55)
    (pick (ltb b 97) 16
    (pick (ltb b 103) (b - 87)
    16)))))

-- the bytes of a line of digits, two digits a byte
abbrev pub bytes_of : List ℕ → List ℕ
bytes_of [] = []
bytes_of (a ∷ []) = []
bytes_of (a ∷ b ∷ l) = (digit_value a % 16 * 16 + digit_value b % 16) ∷ bytes_of l

-- the fields of two, four and eight bytes that begin at byte i of a frame; bytes past its end count 0
abbrev pub short_at : List ℕ → ℕ → ℕ
short_at f i = get_or f i 0 * 0x100 + get_or f (i + 1) 0

abbrev pub word_at : List ℕ → ℕ → ℕ
word_at f i = short_at f i * 0x1_0000 + short_at f (i + 2)

abbrev pub long_at : List ℕ → ℕ → ℕ
long_at f i = word_at f i * 0x1_0000_0000 + word_at f (i + 4)

-- ---- writing: "Written hexadecimal digits are to come from the formula: 48 plus the digit below ten, else 87 plus it"

abbrev pub hex_digit : ℕ → ℕ
hex_digit v = pick (ltb v 10) (48 + v) (87 + v)

-- the digits of a frame
abbrev pub digits_of : List ℕ → List ℕ
digits_of [] = []
digits_of (b ∷ f) = hex_digit (b / 16) ∷ hex_digit (b % 16) ∷ digits_of f
