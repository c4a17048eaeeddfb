-- An index of a table's rows by operator and by the classes of their children, behind the index of a query: the tail of one array. First come the
-- places, of each row where its frame begins on the sheet; then the slots, each with the number of its first entry, 0 where it has none; then the
-- entries, from number 1 on, with two numbers each: the row, and the next entry of the slot. A row is entered once in each of its slots.
use Rattle.std.specs.Prelude.{ℕ, zero, suc, ◌+◌, ◌*◌, ◌%◌, ◌<◌, ◌≤◌, ◌≡◌, Bool, List, [], ◌∷◌, map, length, get_or, eqb}
use Rattle.row_frames.specs.Choose.{pick}
use Rattle.row_frames.specs.Limits.{items_most, rows_most}
use Rattle.row_frames.specs.Sheet.{frame_at, frames_in}
use Rattle.row_frames.specs.Atoms.{Row, op_of, children}
use Rattle.row_frames.specs.Running.{among, no_row}
use Rattle.row_frames.specs.Rows.{row_of, rows_in}
use Rattle.row_frames.specs.Wanted.{op_path}
use Rattle.row_frames.specs.declared.row.Want.{Want}
use Rattle.buckets.specs.Buckets.{numbers_from}

-- ---- the layout

-- where the places begin, the slots, the entries
abbrev pub rows_at : ℕ
rows_at = 22400

abbrev pub heads_at : ℕ
heads_at = rows_at + rows_most

-- the slots of classes come first, then those of operators
abbrev pub class_slots : ℕ
class_slots = 512

abbrev pub row_slots : ℕ
row_slots = class_slots + 256

abbrev pub entries_at : ℕ
entries_at = heads_at + row_slots

-- a row has an operator and its children
abbrev pub entries_most : ℕ
entries_most = (1 + items_most) * rows_most

-- the length of the whole array
abbrev pub table_index : ℕ
table_index = entries_at + 2 * (entries_most + 1)

-- of row j
abbrev pub place_at : List ℕ → ℕ → ℕ
place_at i j = get_or i (rows_at + j) 0

-- of slot t
abbrev pub head_at : List ℕ → ℕ → ℕ
head_at i t = get_or i (heads_at + t) 0

-- of entry e
abbrev pub row_at : List ℕ → ℕ → ℕ
row_at i e = get_or i (entries_at + 2 * e) 0

abbrev pub next_at : List ℕ → ℕ → ℕ
next_at i e = get_or i (entries_at + 2 * e + 1) 0

-- the rows from entry e on: at most n entries are looked at
unfoldable pub chain_from : List ℕ → ℕ → ℕ → List ℕ
chain_from i zero e = []
chain_from i (suc n) e = let rest = chain_from i n (next_at i e) in pick (eqb e 0) [] (row_at i e ∷ rest)

-- of slot t: entries fall, so that no more than its first are looked at
abbrev pub chain_at : List ℕ → ℕ → List ℕ
chain_at i t = chain_from i (head_at i t) (head_at i t)

-- ---- the slots

-- of a class, of an operator, of a row
abbrev pub class_slot : ℕ → ℕ
class_slot c = c % class_slots

abbrev pub op_slot : ℕ → ℕ
op_slot o = class_slots + o % 256

abbrev pub slots_of : Row → List ℕ
slots_of r = op_slot (op_of r) ∷ map class_slot (children r)

abbrev pub in_slot : ℕ → Row → Bool
in_slot t r = among t (slots_of r)

-- the slot that has the rows which are asked for
abbrev pub slot_for : Want → ℕ
slot_for w = pick (eqb w.path op_path) (op_slot w.class) (class_slot w.class)

-- ---- the index i of the rows rs, whose frames stand on the sheet s

pub record RowsIndexed (rs : List Row) (s i : List ℕ) : Type 0 where
  pub few : length rs ≤ rows_most
  pub frames : (j : ℕ) → j < length rs → row_of (frame_at s (place_at i j)) ≡ get_or rs j no_row
  pub falling : (e : ℕ) → 0 < e → next_at i e < e
  pub chains : (t : ℕ) → t < row_slots → chain_at i t ≡ numbers_from (in_slot t) 0 rs

-- the rows on a sheet
abbrev pub rows_on : List ℕ → List Row
rows_on s = rows_in (frames_in s)
