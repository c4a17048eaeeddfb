-- `frame_tests::tests::is_header` meets its contract.
use Rattle.frames.proofs.ChooseLaws.{tests}
use Rattle.frame_tests.proofs.tests.is_header.Goals as goal

pub returns-then-kind-eq0 : goal.returns-then-kind-eq0
returns-then-kind-eq0 c = search tests

pub returns-else-kind-eq0 : goal.returns-else-kind-eq0
returns-else-kind-eq0 c = search tests
