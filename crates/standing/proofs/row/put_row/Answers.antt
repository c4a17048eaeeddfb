-- `standing::row::put_row` meets its contract.
use native.Mathlib.Omega.{arith}
use Rattle.standing.proofs.FrameLaws.{head_room, value_room, literal_laid, count_room, children_room, node_laid}
use Rattle.standing.proofs.row.put_row.Goals as goal

pub put_head-head-requires : goal.put_head-head-requires
put_head-head-requires c = record { indexed = c.requires.indexed; at_in_bounds = head_room _ c.args.frame.now c.args.out.now _ c.requires.frame_in_bounds c.requires.frame_value }

pub put_value-requires : goal.put_value-requires
put_value-requires c = value_room _ c.args.frame.now _ _ c.requires.frame_in_bounds c.requires.frame_value c.put_head-head.ensures _ c.byte_at.ensures c.if-byte_at-ne48.true

pub returns-then-byte_at-ne48 : goal.returns-then-byte_at-ne48
returns-then-byte_at-ne48 c = literal_laid _ c.args.frame.now _ _ c.requires.frame_in_bounds c.requires.frame_value c.put_head-head.ensures _ c.byte_at.ensures c.if-byte_at-ne48.true (λ i. omega (arith, c.shared_slice_known-3-1.given i)) c.put_value.ensures

pub put_byte-count-requires : goal.put_byte-count-requires
put_byte-count-requires c = count_room _ c.args.frame.now _ _ c.requires.frame_in_bounds c.requires.frame_value c.put_head-head.ensures _ c.byte_at.ensures c.if-byte_at-ne48.false _ c.byte_at-n.ensures

pub put_children-requires : goal.put_children-requires
put_children-requires c = record { indexed = c.requires.indexed; n_bound = omega arith; n_in_bounds = children_room _ c.args.frame.now _ _ c.requires.frame_in_bounds c.requires.frame_value c.put_head-head.ensures _ c.byte_at.ensures c.if-byte_at-ne48.false _ c.byte_at-n.ensures c.put_byte-count.ensures _ c.from.ensures }

pub returns : goal.returns
returns c = node_laid _ c.args.frame.now _ _ c.requires.frame_in_bounds c.requires.frame_value c.put_head-head.ensures _ c.byte_at.ensures c.if-byte_at-ne48.false _ c.byte_at-n.ensures c.put_byte-count.ensures _ c.from.ensures c.put_children.ensures
