-- `row_indexing::fill::enter_rows` meets its contract.
use Rattle.row_indexing.proofs.FillLaws.{RowsEntered}
use Rattle.row_indexing.specs.Filling.{rows_placed}
use Rattle.row_indexing.proofs.fill.enter_rows.Given as goal

abbrev pub invariant-loop-j : goal.invariant-loop-j
invariant-loop-j l = RowsEntered (rows_placed l.sheet l.initial.index l.n) l.initial.index l.index l.j l.m
