-- `row_indexing::fill::enter_rows` meets its contract.
use Rattle.row_indexing.proofs.FillLaws.{filling_first, filling_end, fill_place, fill_fits, fill_room, filling_next}
use native.Mathlib.Omega.{arith}
use Rattle.row_indexing.proofs.fill.enter_rows.Goals as goal

pub loop-j-init : goal.loop-j-init
loop-j-init c = filling_first c.args.sheet.now c.args.index.now c.args.n c.requires

pub overflow_add-j : goal.overflow_add-j
overflow_add-j c = omega (arith, fill_fits c.args.sheet.now c.args.index.now c.args.n c.requires _ _ _ c.loop-j.invariant c.loop-j-test.true)

pub offset_bounds-index-j : goal.offset_bounds-index-j
offset_bounds-index-j c = omega (arith, fill_fits c.args.sheet.now c.args.index.now c.args.n c.requires _ _ _ c.loop-j.invariant c.loop-j-test.true)

pub bounds-index-j : goal.bounds-index-j
bounds-index-j c = fill_place c.args.sheet.now c.args.index.now c.args.n c.requires _ _ _ c.loop-j.invariant c.loop-j-test.true

pub overflow_cast-j : goal.overflow_cast-j
overflow_cast-j c = omega (arith, fill_fits c.args.sheet.now c.args.index.now c.args.n c.requires _ _ _ c.loop-j.invariant c.loop-j-test.true)

pub enter_row-m-requires : goal.enter_row-m-requires
enter_row-m-requires c = fill_room c.args.sheet.now c.args.index.now c.args.n c.requires _ _ _ c.loop-j.invariant c.loop-j-test.true _ c.from-place.ensures _ c.frame_at.ensures

pub loop-j-preserved : goal.loop-j-preserved
loop-j-preserved c = filling_next c.args.sheet.now c.args.index.now c.args.n c.requires _ _ _ c.loop-j.invariant c.loop-j-test.true _ c.from-place.ensures _ c.frame_at.ensures _ _ c.enter_row-m.ensures

pub returns : goal.returns
returns c = filling_end c.args.sheet.now c.args.index.now c.args.n c.requires _ _ _ c.loop-j.invariant c.loop-j-test.false
