-- Bytes laid behind others in an array, and those of a row with the leaders of its classes.
use Rattle.std.specs.Prelude.{ℕ, ◌+◌, ◌≡◌, length, get_or, take}
use mathlib.Core.List.{List, [], ◌∷◌, ◌++◌, map, flat_map}
use Rattle.hexadecimal.specs.Digits.{short_at}
use Rattle.frames.specs.Sheet.{frames_in}
use Rattle.records.specs.ModelLimits.{class_bytes}
use Rattle.records.specs.Items.{items_at}
use Rattle.records.specs.Leaders.{leader_in, led_row}
use Rattle.records.specs.Rows.{row_of, row_frame}

-- o' has the bytes bs behind the first `at` of o, up to r
pub record Lays (o : List ℕ) (at : ℕ) (bs o' : List ℕ) (r : ℕ) : Type 0 where
  pub is : take r o' ≡ take at o ++ bs
  pub end : r ≡ at + length bs
  pub size : length o' ≡ length o

-- ---- the bytes of the row's frame f, by the table's sheet s

-- the leader of a class
abbrev pub lead_on : List ℕ → ℕ → ℕ
lead_on s = leader_in (frames_in s)

-- its kind, the leader of its class, its operator
abbrev pub head_bytes : List ℕ → List ℕ → List ℕ
head_bytes s f = get_or f 0 0 ∷ (class_bytes (lead_on s (short_at f 1)) ++ get_or f 3 0 ∷ [])

-- its value
abbrev pub value_bytes : List ℕ → List ℕ
value_bytes f = get_or f 4 0 ∷ get_or f 5 0 ∷ get_or f 6 0 ∷ get_or f 7 0 ∷ []

-- the leaders of its first n children
unfoldable pub child_bytes : List ℕ → List ℕ → ℕ → List ℕ
child_bytes s f n = flat_map class_bytes (map (lead_on s) (items_at short_at 2 f 5 n))

-- all of it
unfoldable pub led_frame : List ℕ → List ℕ → List ℕ
led_frame s f = row_frame (led_row (lead_on s) (row_of f))
