-- `table_samples::tables::distinct_classes` meets its contract.
use Rattle.table_samples.proofs.RowClasses.{Seeing}
use Rattle.table_samples.proofs.tables.distinct_classes.Given as goal

abbrev pub invariant-loop-j : goal.invariant-loop-j
invariant-loop-j l = Seeing l.frame l.n l.initial.classes l.classes l.m l.j
