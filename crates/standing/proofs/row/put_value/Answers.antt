-- `standing::row::put_value` meets its contract.
use Rattle.standing.proofs.FrameLaws.{lays_value}
use Rattle.standing.proofs.row.put_value.Goals as goal

pub returns : goal.returns
returns c = lays_value c.args.frame.now c.put_byte-second.ensures c.byte_at.ensures c.put_byte-third.ensures c.byte_at-2.ensures c.put_byte-last.ensures c.byte_at-3.ensures c.put_byte.ensures c.byte_at-4.ensures
