-- `standing::lay::lay_standing` meets its contract.
use Rattle.std.proofs.Common.{ap, not}
use native.Mathlib.Omega.{arith}
use Rattle.standing.proofs.LayLaws.{laying_starts, laying_ends, next_fits, next_less, not_row, row_here, row_room, number_next, turn_room, row_passed, row_new, row_old}
use Rattle.standing.proofs.lay.lay_standing.Goals as goal

pub loop-at-init : goal.loop-at-init
loop-at-init c = laying_starts _ _ _ _ c.requires.standing_room

pub overflow_add-at : goal.overflow_add-at
overflow_add-at c = omega (arith, next_fits c.loop-at.invariant c.requires.standing_room c.loop-at-test.true _ c.frame_at-frame.ensures)

pub loop-at-smaller-then-not-is_row : goal.loop-at-smaller-then-not-is_row
loop-at-smaller-then-not-is_row c = next_less c.loop-at.invariant c.requires.standing_room c.loop-at-test.true _ c.frame_at-frame.ensures

pub loop-at-preserved-then-not-is_row : goal.loop-at-preserved-then-not-is_row
loop-at-preserved-then-not-is_row c = not_row c.loop-at.invariant c.requires.standing_room c.loop-at-test.true c.frame_at-frame.result.now c.frame_at-frame.ensures _ _ c.byte_at.ensures c.is_row.ensures (ap not c.if-not-is_row.true)

pub overflow_add-n : goal.overflow_add-n
overflow_add-n c = omega (arith, number_next c.loop-at.invariant c.requires.standing_room c.loop-at-test.true c.frame_at-frame.result.now c.frame_at-frame.ensures _ _ c.byte_at.ensures c.is_row.ensures (ap not c.if-not-is_row.false))

pub put_row-behind-requires : goal.put_row-behind-requires
put_row-behind-requires c = record { indexed = c.requires.indexed; frame_value = row_here c.loop-at.invariant c.requires.standing_room c.loop-at-test.true c.frame_at-frame.result.now c.frame_at-frame.ensures _ _ c.byte_at.ensures c.is_row.ensures (ap not c.if-not-is_row.false); frame_in_bounds = row_room c.loop-at.invariant c.requires.standing_room c.loop-at-test.true c.frame_at-frame.result.now c.frame_at-frame.ensures _ _ c.byte_at.ensures c.is_row.ensures (ap not c.if-not-is_row.false) }

pub passed_over-requires : goal.passed_over-requires
passed_over-requires c = turn_room c.loop-at.invariant c.requires.standing_room c.loop-at-test.true c.frame_at-frame.result.now c.frame_at-frame.ensures _ _ c.byte_at.ensures c.is_row.ensures (ap not c.if-not-is_row.false) c.put_row-behind.ensures

pub loop-at-smaller-then-passed_over : goal.loop-at-smaller-then-passed_over
loop-at-smaller-then-passed_over c = next_less c.loop-at.invariant c.requires.standing_room c.loop-at-test.true _ c.frame_at-frame.ensures

pub loop-at-preserved-then-passed_over : goal.loop-at-preserved-then-passed_over
loop-at-preserved-then-passed_over c = row_passed c.loop-at.invariant c.requires.standing_room c.loop-at-test.true c.frame_at-frame.result.now c.frame_at-frame.ensures _ _ c.byte_at.ensures c.is_row.ensures (ap not c.if-not-is_row.false) c.put_row-behind.ensures c.passed_over.ensures c.if-passed_over.true

pub overflow_add-m : goal.overflow_add-m
overflow_add-m c = omega (arith, c.loop-at.invariant.few, number_next c.loop-at.invariant c.requires.standing_room c.loop-at-test.true c.frame_at-frame.result.now c.frame_at-frame.ensures _ _ c.byte_at.ensures c.is_row.ensures (ap not c.if-not-is_row.false))

pub loop-at-smaller-then-new-n : goal.loop-at-smaller-then-new-n
loop-at-smaller-then-new-n c = next_less c.loop-at.invariant c.requires.standing_room c.loop-at-test.true _ c.frame_at-frame.ensures

pub loop-at-preserved-then-new-n : goal.loop-at-preserved-then-new-n
loop-at-preserved-then-new-n c = row_new c.loop-at.invariant c.requires.standing_room c.loop-at-test.true c.frame_at-frame.result.now c.frame_at-frame.ensures _ _ c.byte_at.ensures c.is_row.ensures (ap not c.if-not-is_row.false) c.put_row-behind.ensures c.passed_over.ensures c.if-passed_over.false c.if-new-n.true

pub loop-at-smaller : goal.loop-at-smaller
loop-at-smaller c = next_less c.loop-at.invariant c.requires.standing_room c.loop-at-test.true _ c.frame_at-frame.ensures

pub loop-at-preserved : goal.loop-at-preserved
loop-at-preserved c = row_old c.loop-at.invariant c.requires.standing_room c.loop-at-test.true c.frame_at-frame.result.now c.frame_at-frame.ensures _ _ c.byte_at.ensures c.is_row.ensures (ap not c.if-not-is_row.false) c.put_row-behind.ensures c.passed_over.ensures c.if-passed_over.false c.if-new-n.false

pub shape_of-out : goal.shape_of-out
shape_of-out c = c.loop-at.invariant.out_size

pub shape_of-seen : goal.shape_of-seen
shape_of-seen c = c.loop-at.invariant.seen_size

pub returns : goal.returns
returns c = laying_ends c.loop-at.invariant c.requires.standing_room c.loop-at-test.false
