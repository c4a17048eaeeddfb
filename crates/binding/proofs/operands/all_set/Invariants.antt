-- `binding::operands::all_set` meets its contract: the numbers left decide what all decide.
use Rattle.binding.proofs.OperandLaws.{AllIn}
use Rattle.binding.proofs.operands.all_set.Given as goal

abbrev pub invariant-loop-k : goal.invariant-loop-k
invariant-loop-k l = AllIn l.frame l.i l.w l.n l.set l.k
