-- `resampled_means` meets its contract: the invariant says that the means in their places, with those to come from the state now, are them all.
use Rattle.measure.proofs.Laws.{Filled}
use Rattle.measure.proofs.resampled_means.Given as goal

abbrev pub invariant-loop-i : goal.invariant-loop-i
invariant-loop-i l = Filled l.draws l.count l.means l.state l.i
