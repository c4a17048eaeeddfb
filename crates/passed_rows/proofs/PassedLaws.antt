-- The sheet of an accepted table. Proved from the reading.
use Prim.Native.Nat.{ℕ, ◌<◌}
use mathlib.Core.Path.{◌≡◌, sym, ◌∙◌}
use mathlib.Core.List.{List}
use native.Mathlib.Omega.{arith}
use lib.ListN.{length, take}
use Rattle.reading.specs.Text.TheVariants.{Table}
use Rattle.reading.specs.First.{sheet_size}
use Rattle.reading.specs.Reading.{Reading}
use Rattle.reading.specs.Reading.{Accepted}
use Rattle.reading.specs.Index.{Indexed}
use Rattle.reading.specs.Second.{reading}
use Rattle.reading.specs.IndexedReading.{ReadIndexed}
use Rattle.reading.proofs.ReadLaws.{read_sheet, read_index}
use Rattle.standing.proofs.Whole.{table_rows}
use Rattle.standing.specs.Stands.{RowsSheet}
use Rattle.standing.proofs.AcceptedLaws.{rows_sheet}

-- a table that was read and accepted, with its index and with as many rows as were counted
pub rows_read : (x s i : List ℕ) (r : Reading) → ReadIndexed (reading Table x) x s i r → (n c : ℕ) → r ≡ Accepted n c → (z : ℕ) → z ≡ sheet_size (length x) n → Indexed (take z s) i × (RowsSheet (take z s) × (c < 65536))
rows_read x s i r p n c e z u =
    let ok : reading Table x ≡ Accepted n c = sym p.is ∙ e in
    (read_index (reading Table x) x s i r p n c e z u, (rows_sheet x (take z s) n c ok (read_sheet (reading Table x) x s i r p n c e z u), omega (arith, table_rows x n c ok)))
