-- `replay::take_piece` meets its contract. The loop's invariant: what is kept stays within the line's room. Assumes nothing.
use Rattle.replay.proofs.Laws.{Kept}
use Rattle.replay.proofs.take_piece.Given as goal

abbrev pub invariant-loop-b : goal.invariant-loop-b
invariant-loop-b l = Kept l.initial.line l.initial.text l.line l.text l.kept
