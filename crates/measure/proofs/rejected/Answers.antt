-- `rejected` meets its contract: each way by its test, and what `bootstrap_ok` ensures.
use borrow.Author.Tests.{eq-eqb, ne_eqb}
use Rattle.measure.specs.Bootstrap.{rejected}
use Rattle.measure.proofs.rejected.Goals as goal

pub returns-then-cfg-ne0 : goal.returns-then-cfg-ne0
unfolding rejected
returns-then-cfg-ne0 c = rw (ne_eqb _ _ c.if-cfg-ne0.true, ← c.bootstrap_ok.ensures)

pub returns-else-cfg-ne0 : goal.returns-else-cfg-ne0
unfolding rejected
returns-else-cfg-ne0 c = rw (eq-eqb _ _ c.if-cfg-ne0.false)
