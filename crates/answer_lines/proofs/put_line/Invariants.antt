-- `answer_lines::put_line` meets its contract. The loop's invariant: the digits of the first bytes stand. Assumes nothing.
use Rattle.answer_lines.proofs.Laws.{Put}
use Rattle.answer_lines.proofs.put_line.Given as goal

abbrev pub invariant-loop-i : goal.invariant-loop-i
invariant-loop-i l = Put l.frame l.out l.i
