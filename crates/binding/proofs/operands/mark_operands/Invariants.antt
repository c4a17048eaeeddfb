-- `binding::operands::mark_operands` meets its contract: the operands left, marked, give what all give.
use Rattle.binding.proofs.OperandLaws.{Marked}
use Rattle.binding.proofs.operands.mark_operands.Given as goal

abbrev pub invariant-loop-k : goal.invariant-loop-k
invariant-loop-k l = Marked l.frame l.i l.w l.n l.initial.bound l.bound l.k
