-- Note 5: one class under several numbers, and the rows that stand.
use Rattle.std.specs.Prelude.{ℕ, Bool, false, ◌&&◌, List, ◌∷◌, map, length, take, eqb}
use Rattle.model.specs.Choose.{pick}
use Rattle.reading.specs.Digits.{short_at}
use Rattle.reading.specs.Keys.{find, is_found}
use Rattle.model.specs.Atoms.{Row, Node, Literal}
use Rattle.model.specs.Equality.{same_list}
use Rattle.model.specs.Firsts.{firsts}
use Rattle.model.specs.Limits.{class_bytes}
use Rattle.records.specs.Rows.{rows_in}

-- "Frame 34 class(2) leader(2) says so": the key of the frame of class c
abbrev pub leading_key : ℕ → List ℕ
leading_key c = 0x34 ∷ class_bytes c

-- "a class without frame 34 leads itself"
abbrev pub leader_from : List ℕ → ℕ → ℕ
leader_from f c = pick (is_found f) (short_at f 3) c

abbrev pub leader_in : List (List ℕ) → ℕ → ℕ
leader_in fs c = leader_from (find (leading_key c) fs) c

-- "Classes are then the same when their leaders are": a row with the leaders of its classes
abbrev pub led_row : (ℕ → ℕ) → Row → Row
led_row leader (Node c o ds) = Node (leader c) o (map leader ds)
led_row leader (Literal c o x) = Literal (leader c) o x

unfoldable pub led_rows : List (List ℕ) → List Row
led_rows fs = map (led_row (leader_in fs)) (rows_in fs)

-- two rows are equal; no frame 30 equals a frame 31
abbrev pub same_row : Row → Row → Bool
same_row (Node c o ds) (Node c' o' ds') = eqb c c' && (eqb o o' && same_list eqb ds ds')
same_row (Node c o ds) (Literal c' o' x) = false
same_row (Literal c o x) (Node c' o' ds) = false
same_row (Literal c o x) (Literal c' o' y) = eqb c c' && (eqb o o' && eqb x y)

-- "Rows equal by leaders but not by number: the first stands, later ones are passed over"
unfoldable pub standing : List (List ℕ) → List Row
unfolding led_rows
standing fs = firsts same_row (led_rows fs)

-- "but keep their numbers and count for frame 33": how many rows of the numbers below n stand
unfoldable pub standing_below : ℕ → List (List ℕ) → ℕ
unfolding led_rows
standing_below n fs = length (firsts same_row (take n (led_rows fs)))
