-- `table_tests::shapes::shapes_fault` meets its contract: the frames left, after the earlier rows, give what all give.
use Rattle.table_tests.proofs.ShapeLaws.{noting_none, noted_few, noted_refused, noting_again, noted_end}
use native.Mathlib.Omega.{arith}
use Rattle.table_tests.proofs.shapes.shapes_fault.Goals as goal

pub loop-frame-init : goal.loop-frame-init
loop-frame-init c = noting_none _ _ _ c.requires (search c.of-frame-items.ensures)

pub overflow_add-n : goal.overflow_add-n
overflow_add-n c = omega (arith, noted_few _ _ _ _ _ c.loop-frame.invariant _ _ c.in-Some.ensures.steps, c.well_formed)

pub returns-then-fault-ne0 : goal.returns-then-fault-ne0
returns-then-fault-ne0 c = noted_refused _ _ _ _ _ c.loop-frame.invariant _ _ c.in-Some.ensures.steps _ _ c.row_fault-fault.ensures c.if-fault-ne0.true

pub loop-frame-preserved : goal.loop-frame-preserved
loop-frame-preserved c = noting_again _ _ _ _ _ c.loop-frame.invariant _ _ c.in-Some.ensures.steps _ _ c.row_fault-fault.ensures c.if-fault-ne0.false

pub returns : goal.returns
returns c = noted_end _ _ _ _ _ c.loop-frame.invariant c.in-None.ensures.steps.0
