-- The tests 2, 3 and 4 of one frame of a query, a plan or a table.
use Rattle.std.specs.Prelude.{ℕ, ◌+◌, List, Bool, true, false, not, length, get_or, ltb, leb, eqb}
use Rattle.frames.specs.Choose.{pick}
use Rattle.frames.specs.Limits.{atoms_most, rows_most}
use Rattle.frames.specs.Fields.{field_passes, no_counts}
use Rattle.frames.specs.Test.TheVariants.{Limits}
use Rattle.frames.specs.Kinds.{kind_at, query, plan, table}
use Rattle.frames.specs.Frames.{frame_length, frame_passes}
use Rattle.frame_tests.specs.declared.tests.Text.{Text}
use Rattle.frame_tests.specs.declared.tests.Text.TheVariants.{Query, Plan, Table}

-- ---- 2: "kind not of this text; first frame not 00 or 3f, or a second one"

abbrev pub text_number : Text → ℕ
text_number Query = query
text_number Plan = plan
text_number Table = table

abbrev pub is_header : ℕ → Bool
is_header b = pick (eqb b 0) true (eqb b 0x3f)

-- a query and a plan have their header first and nowhere else; a table has none
abbrev pub header_first : Bool → ℕ → Bool
header_first first b = pick first (is_header b) (not (is_header b))

abbrev pub in_place : Text → Bool → ℕ → Bool
in_place Query first b = header_first first b
in_place Plan first b = header_first first b
in_place Table first b = true

abbrev pub belongs : Text → Bool → ℕ → Bool
belongs t first b = pick (eqb (kind_at b).text (text_number t)) (in_place t first b) false

-- ---- 4: "atoms 64 .. rows 1,024"

-- the frames that are counted: the atoms of a query, the rows of a table
abbrev pub is_atom : ℕ → Bool
is_atom b = pick (leb 1 b) (leb b 0x0e) false

abbrev pub is_row : ℕ → Bool
is_row b = pick (eqb b 0x30) true (eqb b 0x31)

abbrev pub is_counted : Text → ℕ → Bool
is_counted Query b = is_atom b
is_counted Plan b = false
is_counted Table b = is_row b

abbrev pub counted_most : Text → ℕ
counted_most Query = atoms_most
counted_most Plan = 0
counted_most Table = rows_most

-- c are counted, and one more where b is such a kind
abbrev pub counted : Text → ℕ → ℕ → ℕ
counted t c b = pick (is_counted t b) (c + 1) c

abbrev pub has_room : Text → ℕ → ℕ → Bool
has_room t c b = pick (is_counted t b) (ltb c (counted_most t)) true

-- ---- the tests 2, 3 and 4 of a frame, c frames before it being counted: the number of the first that it fails, 0 where it passes
unfoldable pub frame_fault : Text → Bool → ℕ → List ℕ → ℕ
frame_fault t first c f =
    pick (belongs t first (get_or f 0 0))
    (pick (eqb (length f) (frame_length f))
    (pick (frame_passes (field_passes Limits no_counts) f)
    (pick (has_room t c (get_or f 0 0))
    0
    4)
    4)
    3)
    2
