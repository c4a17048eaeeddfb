-- Computed: rows and lookups, read off frames.
use Rattle.std.specs.Prelude.{ℕ, ◌≡◌, refl, List, [], ◌∷◌}
use Rattle.reading.specs.Kinds.{kind_at, kinds}
use Rattle.reading.specs.Sheet.{frames_in, frames_up_to}
use Rattle.model.specs.Atoms.{local, global, ByOp, ByChildPos, ByRepr, ByContains, Row, Node, Literal}
use Rattle.records.specs.Items.{items_at}
use Rattle.records.specs.Rows.{row_of, rows_in, halves_of, halves_in}
use Rattle.records.specs.Lookups.{lookups_of}

-- the table of document 01 and a row 31, a global between: its frames one behind the other, its rows, and what stands behind their operators
sheet : List ℕ
sheet = 0x30 ∷ 0 ∷ 5 ∷ 2 ∷ 1 ∷ 0 ∷ 7 ∷ 0x30 ∷ 0 ∷ 6 ∷ 1 ∷ 2 ∷ 0 ∷ 7 ∷ 0 ∷ 5 ∷ 0x32 ∷ 0 ∷ 0 ∷ 5 ∷ 0x31 ∷ 0 ∷ 7 ∷ 3 ∷ 0 ∷ 1 ∷ 0 ∷ 2 ∷ []

unfoldable pub table : List Row
table = Node 5 2 (7 ∷ []) ∷ Node 6 1 (7 ∷ 5 ∷ []) ∷ Literal 7 3 0x1_0002 ∷ []

rows : rows_in (frames_in sheet) ≡ table
unfolding sheet table rows_in row_of items_at frames_in frames_up_to kind_at kinds
rows = refl

halves : halves_in (frames_in sheet) ≡ 7 ∷ 7 ∷ 5 ∷ 1 ∷ 2 ∷ []
unfolding sheet halves_in halves_of items_at frames_in frames_up_to kind_at kinds
halves = refl

-- a Join of all four
lookups : lookups_of (0x40 ∷ 1 ∷ 0 ∷ 4 ∷ 0 ∷ 9 ∷ 0 ∷ 0 ∷ 1 ∷ 1 ∷ 2 ∷ 3 ∷ 2 ∷ 4 ∷ 0 ∷ 0 ∷ 3 ∷ 0 ∷ 5 ∷ 0 ∷ []) ≡ ByOp 9 ∷ ByChildPos (global 2) 3 ∷ ByRepr 4 ∷ ByContains (local 5) ∷ []
unfolding items_at
lookups = refl
