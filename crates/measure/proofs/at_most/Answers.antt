-- `at_most` meets its contract: each way by what its test says.
use Rattle.measure.proofs.at_most.Goals as goal

pub returns-then-x-hi : goal.returns-then-x-hi
returns-then-x-hi c = rw c.if-x-hi.true

pub returns-else-x-hi : goal.returns-else-x-hi
returns-else-x-hi c = rw c.if-x-hi.false
