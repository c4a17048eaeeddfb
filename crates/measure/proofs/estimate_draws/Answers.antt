-- `estimate_draws` meets its contract: each way by what `mean` and `rejected` ensure.
use Rattle.measure.specs.Bootstrap.{estimate_of}
use Rattle.measure.proofs.estimate_draws.Goals as goal

pub returns-then-rejected : goal.returns-then-rejected
unfolding estimate_of
returns-then-rejected c = rw (← c.mean-m.ensures, ← c.rejected.ensures, c.if-rejected.true)

pub returns-else-rejected : goal.returns-else-rejected
unfolding estimate_of
returns-else-rejected c = rw (← c.mean-m.ensures, ← c.rejected.ensures, c.if-rejected.false)
