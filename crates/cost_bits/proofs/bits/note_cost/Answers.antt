-- `cost_bits::bits::note_cost` meets its contract: where there is a place.
use borrow.Author.Tests.{lt-ltb, le-ltb}
use Rattle.cost_bits.proofs.bits.note_cost.Goals as goal

pub returns-then-i-costs : goal.returns-then-i-costs
returns-then-i-costs c = rw (lt-ltb _ _ c.if-i-costs.true)

pub returns-else-i-costs : goal.returns-else-i-costs
returns-else-i-costs c = rw (le-ltb _ _ c.if-i-costs.false)
