-- `frame_tests::tests::is_row` meets its contract.
use Rattle.frames.proofs.ChooseLaws.{tests}
use Rattle.frame_tests.proofs.tests.is_row.Goals as goal

pub returns-then-kind-eq48 : goal.returns-then-kind-eq48
returns-then-kind-eq48 c = search tests

pub returns-else-kind-eq48 : goal.returns-else-kind-eq48
returns-else-kind-eq48 c = search tests
