-- `output::bytes::put_byte` meets its contract: both digits have room, the first alone, or none.
use native.Mathlib.Omega.{arith}
use Rattle.output.proofs.PutLaws.{byte_both, byte_first, byte_none}
use Rattle.output.proofs.bytes.put_byte.Goals as goal
use Rattle.output.proofs.bytes.put_byte.Goals.{then-at-out, else-at-out, then-at-out-2, else-at-out-2}

pub returns : goal.returns
returns c = elim c.if-at-out.branch [
  | then-at-out v ↦ elim c.if-at-out-2.branch [
    | then-at-out-2 w ↦ rw (w.out-is, v.out-is) (search (byte_both, arith))
    | else-at-out-2 w ↦ rw (w.out-is, v.out-is) (search (byte_first, arith))
  ]
  | else-at-out v ↦ elim c.if-at-out-2.branch [
    | then-at-out-2 w ↦ absurd (omega arith)
    | else-at-out-2 w ↦ rw (w.out-is, v.out-is) (search (byte_none, arith))
  ]
]
