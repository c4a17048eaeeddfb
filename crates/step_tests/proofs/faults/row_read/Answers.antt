-- `step_tests::faults::row_read` meets its contract: by the mark.
use Rattle.step_tests.proofs.RowLaws.{row_mark}
use Rattle.step_tests.proofs.faults.row_read.Goals as goal

pub returns : goal.returns
returns c = search row_mark
