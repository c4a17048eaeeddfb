-- `table_tests::shapes::shapes_fault` meets its contract: the frames left, after the earlier rows, give what all give.
use Rattle.table_tests.proofs.ShapeLaws.{Noting}
use Rattle.frames.specs.Sheet.{frames_in}
use Rattle.table_tests.proofs.shapes.shapes_fault.Given as goal

abbrev pub invariant-loop-frame : goal.invariant-loop-frame
invariant-loop-frame l = Noting l.table l.initial.shapes l.shapes (frames_in l.frame-iterator.rest.now) l.n
