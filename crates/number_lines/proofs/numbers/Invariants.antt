-- `numbers` meets its contract: a line at each turn, until one is no number, the text ends or the array is full. Assumes nothing.
use Rattle.number_lines.proofs.Laws.{Walks}
use Rattle.number_lines.proofs.numbers.Given as goal

abbrev pub invariant-loop-n : goal.invariant-loop-n
invariant-loop-n l = Walks l.text l.initial.out l.out l.n
