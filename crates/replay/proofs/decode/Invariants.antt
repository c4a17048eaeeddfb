-- `replay::decode` meets its contract. The loop's invariant: the bytes so far are the line's. Assumes nothing.
use Rattle.replay.proofs.Laws.{Decoded}
use Rattle.replay.proofs.decode.Given as goal

abbrev pub invariant-loop-i : goal.invariant-loop-i
invariant-loop-i l = Decoded l.line l.initial.text l.text l.i
