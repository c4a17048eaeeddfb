-- `row_indexing::fill::enter_row` meets its contract.
use Rattle.row_indexing.proofs.SlotLaws.{entering_all, child_room, entering_child, op_room, entering_op}
use native.Mathlib.Omega.{arith}
use Rattle.row_indexing.proofs.fill.enter_row.Goals as goal

pub loop-k-init : goal.loop-k-init
loop-k-init c = entering_all c.args.frame.now c.args.index.now c.args.j c.args.m c.requires _ c.child_count-n.ensures

pub enter-last-requires : goal.enter-last-requires
enter-last-requires c = record { t_lt_row_slots = omega arith; entry_room = child_room c.args.frame.now c.args.index.now c.args.j c.args.m c.requires _ _ _ _ c.loop-k.invariant c.loop-k-test.true _ _ c.short_at.ensures c.from-class.ensures }

pub loop-k-preserved : goal.loop-k-preserved
loop-k-preserved c = entering_child c.args.frame.now c.args.index.now c.args.j c.args.m c.requires _ _ _ _ c.loop-k.invariant c.loop-k-test.true _ _ c.short_at.ensures c.from-class.ensures _ _ c.enter-last.ensures

pub enter-requires : goal.enter-requires
enter-requires c = record { t_lt_row_slots = omega arith; entry_room = op_room c.args.frame.now c.args.index.now c.args.j c.args.m c.requires _ _ _ _ c.loop-k.invariant c.loop-k-test.false _ _ c.byte_at.ensures c.from.ensures c.byte_at.type_inv }

pub returns : goal.returns
returns c = entering_op c.args.frame.now c.args.index.now c.args.j c.args.m c.requires _ _ _ _ c.loop-k.invariant c.loop-k-test.false _ _ c.byte_at.ensures c.from.ensures c.byte_at.type_inv _ _ c.enter.ensures
