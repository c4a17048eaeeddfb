-- `writing::steps::write_steps` meets its contract: the lines left are those of the atoms left.
use Rattle.writing.proofs.StepLaws.{Writing}
use Rattle.writing.proofs.steps.write_steps.Given as goal

abbrev pub invariant-loop-k : goal.invariant-loop-k
invariant-loop-k l = Writing l.sheet l.order l.count l.initial.bound l.initial.out l.at l.bound l.out l.next l.k-index
