-- `row_frames::row::row_has` meets its contract.
use Rattle.row_frames.proofs.RowLaws.{Has}
use Rattle.row_frames.proofs.row.row_has.Given as goal

abbrev pub invariant-loop-j : goal.invariant-loop-j
invariant-loop-j l = Has l.frame l.class l.n l.j
