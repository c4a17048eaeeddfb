-- The rows of a table, read off its frames.
use Rattle.std.specs.Prelude.{ℕ, ◌/◌, ◌%◌, length, get_or, eqb}
use mathlib.Core.List.{List, [], ◌∷◌, ◌++◌, flat_map}
use Rattle.model.specs.Choose.{pick}
use Rattle.reading.specs.Digits.{short_at, word_at}
use Rattle.reading.specs.Faults.{is_row}
use Rattle.model.specs.Atoms.{Row, Node, Literal}
use Rattle.model.specs.Limits.{class_bytes}
use Rattle.records.specs.Items.{items_at}

-- "30 class(2) op n classes(2); 31 class(2) op value(4)"
unfoldable pub row_of : List ℕ → Row
row_of f =
    pick (eqb (get_or f 0 0) 0x30) (Node (short_at f 1) (get_or f 3 0) (items_at short_at 2 f 5 (get_or f 4 0)))
    (Literal (short_at f 1) (get_or f 3 0) (word_at f 4))

-- "each row (frames 30 and 31, numbered from 0) in order"
unfoldable pub rows_in : List (List ℕ) → List Row
rows_in [] = []
rows_in (f ∷ fs) = pick (is_row (get_or f 0 0)) (row_of f ∷ rows_in fs) (rows_in fs)

-- a row as a frame again, "big-endian if wider"
abbrev pub word_bytes : ℕ → List ℕ
word_bytes x = x / 0x100_0000 ∷ x / 0x1_0000 % 0x100 ∷ x / 0x100 % 0x100 ∷ x % 0x100 ∷ []

abbrev pub row_frame : Row → List ℕ
row_frame (Node c o ds) = 0x30 ∷ (class_bytes c ++ o ∷ length ds ∷ flat_map class_bytes ds)
row_frame (Literal c o x) = 0x31 ∷ (class_bytes c ++ o ∷ word_bytes x)

-- what stands behind a row's operator, as numbers of two bytes: its children, or the two halves of its value
unfoldable pub halves_of : List ℕ → List ℕ
halves_of f = pick (eqb (get_or f 0 0) 0x30) (items_at short_at 2 f 5 (get_or f 4 0)) (items_at short_at 2 f 4 2)

-- those of all rows, one behind the other
unfoldable pub halves_in : List (List ℕ) → List ℕ
halves_in [] = []
halves_in (f ∷ fs) = pick (is_row (get_or f 0 0)) (halves_of f ++ halves_in fs) (halves_in fs)
