-- `path_selectivity` meets its contract: each way by the variant and the test on it, the last by what the two holds ensure.
use borrow.Author.Tests.{eq-eqb, ne_eqb}
use Rattle.measure.proofs.path_selectivity.Goals as goal

pub returns-then-denom-eq0 : goal.returns-then-denom-eq0
returns-then-denom-eq0 c = rw (c.in-Some.is, eq-eqb _ _ c.if-denom-eq0.true)

pub returns : goal.returns
returns c = rw (c.in-Some.is, ne_eqb _ _ c.if-denom-eq0.false, ← c.at_least.ensures) c.at_most.ensures
