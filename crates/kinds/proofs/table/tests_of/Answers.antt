-- `kinds::table::tests_of` meets its contract.
use Rattle.kinds.proofs.KindLaws.{row_tests}
use Rattle.kinds.proofs.table.tests_of.Goals as goal

pub returns : goal.returns
returns c = rw c.low_byte.ensures (row_tests _ _ c.row.ensures)
