-- The table by kind as the program keeps it: a byte with the lengths, and one number with the rest but the key, a field by its code. Each is made
-- from the table of Kinds.
use Rattle.std.specs.Prelude.{ℕ, ◌+◌, ◌*◌, ◌/◌, ◌%◌, ◌^◌, List, [], ◌∷◌, map, get_or}
use Rattle.fields.specs.Choose.{pick}
use Rattle.fields.specs.Fields.{width}
use Rattle.kinds.specs.Kinds.{Kind, fixed_length}
use Rattle.fields.specs.Unread.{looks_any}
use Rattle.fields.specs.Codes.{code}
use Rattle.fields.specs.declared.field.Test.TheVariants.{Limits, Range, Reals}

-- ---- lengths

-- a kind's item width and fixed length in one byte
abbrev pub lengths_of : Kind → ℕ
lengths_of r = width r.item * 16 + fixed_length r

-- the bytes of the kinds 00 to 4f, eight to a number, the lowest kind in the lowest byte
abbrev pub length_words : List ℕ
length_words =
    0x24_13_03_03_04_08_24_04
    ∷ 0x01_25_24_35_34_26_25_25
    ∷ 0x01_01_01_0a_0b_0d_06_06
    ∷ 0x01_01_01_01_01_01_01_01
    ∷ 0x01_01_01_01_0a_26_23_0c
    ∷ 0x01_01_01_01_01_01_01_01
    ∷ 0x01_01_01_05_03_04_08_25
    ∷ 0x0a_01_01_01_01_01_01_01
    ∷ 0x26_03_03_03_03_05_04_44
    ∷ 0x01_01_01_02_06_03_25_36
    ∷ []

abbrev pub lengths_at : ℕ → ℕ
lengths_at k = get_or length_words (k / 8) 0 / 2 ^ (8 * (k % 8)) % 256

-- ---- the rest

-- numbers as the bytes of one number, the first lowest
abbrev pub packed : List ℕ → ℕ
packed [] = 0
packed (x ∷ l) = x + 256 * packed l

-- the tests that look at a field or at the items of a kind
abbrev pub looked : Kind → ℕ
looked r =
    pick (looks_any Limits (r.item ∷ r.fields)) 1 0
    + pick (looks_any Range (r.item ∷ r.fields)) 2 0
    + pick (looks_any Reals (r.item ∷ r.fields)) 4 0

-- a kind's text, and the tests that look at a field or an item of it
abbrev pub tests_of : Kind → ℕ
tests_of r = r.text + 4 * looked r

-- the codes of the item and of the fields
abbrev pub codes_of : Kind → ℕ
codes_of r = packed (map code (r.item ∷ r.fields))

-- and both, the tests lowest
abbrev pub row_of : Kind → ℕ
row_of r = tests_of r + 256 * codes_of r
