-- `frame_tests::tests::is_atom` meets its contract.
use Rattle.frames.proofs.ChooseLaws.{tests}
use Rattle.frame_tests.proofs.tests.is_atom.Goals as goal

pub returns-then-kind-ge1 : goal.returns-then-kind-ge1
returns-then-kind-ge1 c = search tests

pub returns-else-kind-ge1 : goal.returns-else-kind-ge1
returns-else-kind-ge1 c = search tests
