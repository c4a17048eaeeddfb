-- `mean` meets its contract: the invariant says that the elements left give, from the total on, the whole sum.
use Rattle.measure.proofs.Laws.{Summed}
use Rattle.measure.proofs.mean.Given as goal

abbrev pub invariant-loop-x : goal.invariant-loop-x
invariant-loop-x l = Summed l.xs l.total l.x-index
