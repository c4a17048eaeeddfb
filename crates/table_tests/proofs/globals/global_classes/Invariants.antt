-- `table_tests::globals::global_classes` meets its contract: the classes given are those of the first globals.
use Rattle.table_tests.proofs.GlobalLaws.{Given}
use Rattle.table_tests.proofs.globals.global_classes.Given as goal

abbrev pub invariant-loop-g : goal.invariant-loop-g
invariant-loop-g l = Given l.sheet l.globals l.g
