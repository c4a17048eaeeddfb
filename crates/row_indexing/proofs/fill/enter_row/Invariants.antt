-- `row_indexing::fill::enter_row` meets its contract.
use Rattle.row_indexing.proofs.SlotLaws.{Entering, slots_left}
use Rattle.row_indexing.proofs.fill.enter_row.Given as goal

abbrev pub invariant-loop-k : goal.invariant-loop-k
invariant-loop-k l = Entering l.frame l.initial.index l.j l.m l.index l.last (slots_left l.frame l.n l.k)
