-- `hex_lines::decode::decode_line` meets its contract.
use Prim.Native.Nat.{◌-◌}
use lib.ListN.{length}
use Rattle.hex_lines.proofs.DecodeLaws.{Laying}
use Rattle.hex_lines.proofs.decode.decode_line.Given as goal

abbrev pub invariant-loop-i : goal.invariant-loop-i
invariant-loop-i l = Laying l.text l.at l.initial.sheet l.to l.sheet l.i l.j

abbrev pub decreases-loop-i : goal.decreases-loop-i
decreases-loop-i l = length l.text - l.i
