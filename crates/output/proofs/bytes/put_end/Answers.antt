-- `output::bytes::put_end` meets its contract: a store past the end changes nothing.
use Rattle.output.proofs.PutLaws.{end_in, end_past}
use Rattle.output.proofs.bytes.put_end.Goals as goal
use Rattle.output.proofs.bytes.put_end.Goals.{then-at-out, else-at-out}

pub returns : goal.returns
returns c = elim c.if-at-out.branch [ then-at-out w ↦ rw w.out-is (search end_in) | else-at-out w ↦ rw w.out-is (search end_past) ]
