-- `all_zero` meets its contract: the invariant says that the draws left decide.
use Rattle.measure.proofs.Laws.{Zeros}
use Rattle.measure.proofs.all_zero.Given as goal

abbrev pub invariant-loop-d : goal.invariant-loop-d
invariant-loop-d l = Zeros l.draws l.d-index
