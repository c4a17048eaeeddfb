-- `resample` meets its contract: the invariant says that the draws to come give, from the state and the total now, what the whole resample gives.
use Rattle.measure.proofs.Laws.{Resampling}
use Rattle.measure.proofs.resample.Given as goal

abbrev pub invariant-loop-left : goal.invariant-loop-left
invariant-loop-left l = Resampling l.draws l.state-2 l.state l.total l._left
