-- `replay::decode` meets its contract. The loop's invariant: the bytes so far are the line's. Assumes nothing.
use native.Mathlib.Omega.{arith}
use Rattle.replay.proofs.Laws.{decoded_next}
use Rattle.replay.proofs.decode.Goals as goal

pub loop-i-preserved : goal.loop-i-preserved
loop-i-preserved c = decoded_next _ _ _ _ _ c.loop-i.invariant (omega arith) (omega arith) c.byte_at.ensures
