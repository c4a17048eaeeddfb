-- `row_indexing::fill::place_rows` meets its contract.
use Rattle.std.proofs.Common.{ap, not}
use Rattle.row_indexing.proofs.PlaceLaws.{placing_first, placing_end, place_less, place_fits, placing_other, place_room, place_few, placing_row}
use native.Mathlib.Omega.{arith}
use Rattle.row_indexing.proofs.fill.place_rows.Goals as goal

pub loop-at-init : goal.loop-at-init
loop-at-init c = placing_first c.args.sheet.now c.args.from c.args.index.now c.requires

pub overflow_add-at : goal.overflow_add-at
overflow_add-at c = omega (arith, place_fits c.args.sheet.now c.args.from c.args.index.now c.requires _ _ _ c.loop-at.invariant c.loop-at-test.true _ c.frame_at-frame.ensures)

pub loop-at-smaller-then-not-is_row : goal.loop-at-smaller-then-not-is_row
loop-at-smaller-then-not-is_row c = place_less c.args.sheet.now c.args.from c.args.index.now c.requires _ _ _ c.loop-at.invariant c.loop-at-test.true _ c.frame_at-frame.ensures

pub loop-at-preserved-then-not-is_row : goal.loop-at-preserved-then-not-is_row
loop-at-preserved-then-not-is_row c = placing_other c.args.sheet.now c.args.from c.args.index.now c.requires _ _ _ c.loop-at.invariant c.loop-at-test.true _ c.frame_at-frame.ensures _ c.byte_at.ensures _ c.is_row.ensures (ap not c.if-not-is_row.true)

pub overflow_cast-index : goal.overflow_cast-index
overflow_cast-index c = omega (arith, place_fits c.args.sheet.now c.args.from c.args.index.now c.requires _ _ _ c.loop-at.invariant c.loop-at-test.true _ c.frame_at-frame.ensures)

pub overflow_add-index : goal.overflow_add-index
overflow_add-index c = omega (arith, place_few c.args.sheet.now c.args.from c.args.index.now c.requires _ _ _ c.loop-at.invariant c.loop-at-test.true _ c.frame_at-frame.ensures _ c.byte_at.ensures _ c.is_row.ensures (ap not c.if-not-is_row.false))

pub offset_bounds-index-n : goal.offset_bounds-index-n
offset_bounds-index-n c = omega (arith, place_few c.args.sheet.now c.args.from c.args.index.now c.requires _ _ _ c.loop-at.invariant c.loop-at-test.true _ c.frame_at-frame.ensures _ c.byte_at.ensures _ c.is_row.ensures (ap not c.if-not-is_row.false))

pub bounds-index-n : goal.bounds-index-n
bounds-index-n c = place_room c.args.sheet.now c.args.from c.args.index.now c.requires _ _ _ c.loop-at.invariant c.loop-at-test.true _ c.frame_at-frame.ensures _ c.byte_at.ensures _ c.is_row.ensures (ap not c.if-not-is_row.false)

pub overflow_add-n : goal.overflow_add-n
overflow_add-n c = omega (arith, place_few c.args.sheet.now c.args.from c.args.index.now c.requires _ _ _ c.loop-at.invariant c.loop-at-test.true _ c.frame_at-frame.ensures _ c.byte_at.ensures _ c.is_row.ensures (ap not c.if-not-is_row.false))

pub loop-at-smaller : goal.loop-at-smaller
loop-at-smaller c = place_less c.args.sheet.now c.args.from c.args.index.now c.requires _ _ _ c.loop-at.invariant c.loop-at-test.true _ c.frame_at-frame.ensures

pub loop-at-preserved : goal.loop-at-preserved
loop-at-preserved c = placing_row c.args.sheet.now c.args.from c.args.index.now c.requires _ _ _ c.loop-at.invariant c.loop-at-test.true _ c.frame_at-frame.ensures _ c.byte_at.ensures _ c.is_row.ensures (ap not c.if-not-is_row.false)

pub returns : goal.returns
returns c = placing_end c.args.sheet.now c.args.from c.args.index.now c.requires _ _ _ c.loop-at.invariant c.loop-at-test.false
