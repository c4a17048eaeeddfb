-- `bootstrap_ok` meets its contract: each way by its test, and what its callees ensure.
use Rattle.measure.specs.Bootstrap.{bootstrap_ok}
use Rattle.measure.proofs.bootstrap_ok.Goals as goal

pub returns-then-mean : goal.returns-then-mean
unfolding bootstrap_ok
returns-then-mean c = rw c.if-mean.true c.all_zero.ensures

pub returns : goal.returns
unfolding bootstrap_ok
returns c = rw (c.if-mean.false, ← c.spread.ensures, ← c.root.ensures)
