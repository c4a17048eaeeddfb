-- A set of classes as words of 64 bits, the lowest class in the lowest bit of the first word.
use Rattle.std.specs.Prelude.{ℕ, ◌+◌, ◌/◌, ◌%◌, ◌^◌, Bool, List, get_or, set, eqb}
use Rattle.fields.specs.Choose.{pick}

-- as many words as hold every class of two bytes
abbrev pub set_words : ℕ
set_words = 1024

abbrev pub has_bit : ℕ → ℕ → Bool
has_bit w b = eqb (w / 2 ^ b % 2) 1

abbrev pub with_bit : ℕ → ℕ → ℕ
with_bit w b = pick (has_bit w b) w (w + 2 ^ b)

unfoldable pub has_class : List ℕ → ℕ → Bool
has_class B c = has_bit (get_or B (c / 64) 0) (c % 64)

unfoldable pub with_class : List ℕ → ℕ → List ℕ
with_class B c = set B (c / 64) (with_bit (get_or B (c / 64) 0) (c % 64))
