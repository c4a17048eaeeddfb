-- `sqrt::rounded` meets its contract, by its test. Assumes nothing.
use Rattle.base.proofs.ChooseLaws.{tests}
use Rattle.sqrt.proofs.rounded.Goals as goal

pub returns-then-r : goal.returns-then-r
returns-then-r c = search tests

pub returns-else-r : goal.returns-else-r
returns-else-r c = search tests
