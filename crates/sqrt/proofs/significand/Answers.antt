-- `sqrt::significand` meets its contract, by its test. Assumes nothing.
use Rattle.base.proofs.ChooseLaws.{tests}
use Rattle.sqrt.proofs.significand.Goals as goal

pub returns-then-b-eq0 : goal.returns-then-b-eq0
returns-then-b-eq0 c = search tests

pub returns-else-b-eq0 : goal.returns-else-b-eq0
returns-else-b-eq0 c = search tests
