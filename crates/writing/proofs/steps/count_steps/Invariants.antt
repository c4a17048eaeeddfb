-- `writing::steps::count_steps` meets its contract: the atoms left give the rest of the sum.
use Rattle.writing.proofs.StepLaws.{Adding}
use Rattle.writing.proofs.steps.count_steps.Given as goal

abbrev pub invariant-loop-k : goal.invariant-loop-k
invariant-loop-k l = Adding l.sheet l.order l.count l.sum l.k-index
