-- `standing::row::put_head` meets its contract.
use native.Mathlib.Omega.{arith}
use Rattle.standing.proofs.FrameLaws.{lays_head}
use Rattle.standing.proofs.PutLaws.{lays_room}
use Rattle.standing.proofs.row.put_head.Goals as goal

pub put_byte-to-requires : goal.put_byte-to-requires
put_byte-to-requires c = omega (arith, c.requires.at_in_bounds)

pub leader-leads-requires : goal.leader-leads-requires
leader-leads-requires c = c.requires.indexed

pub put_short-op-requires : goal.put_short-op-requires
put_short-op-requires c = lays_room c.put_byte-to.ensures 2 (omega (arith, c.requires.at_in_bounds))

pub put_byte-requires : goal.put_byte-requires
put_byte-requires c = omega (arith, c.requires.at_in_bounds, c.put_byte-to.ensures.end, c.put_byte-to.ensures.size, c.put_short-op.ensures.end, c.put_short-op.ensures.size)

pub returns : goal.returns
returns c = lays_head _ c.args.frame.now c.put_byte-to.ensures c.byte_at.ensures c.short_at-class.ensures c.leader-leads.ensures c.put_short-op.ensures c.byte_at-2.ensures c.put_byte.ensures
