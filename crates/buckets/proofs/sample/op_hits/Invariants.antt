-- `buckets::sample::op_hits` meets its contract.
use lib.ListN.{take}
use Rattle.buckets.proofs.SampleLaws.{Hitting}
use Rattle.buckets.specs.RowIndex.{rows_on}
use Rattle.buckets.proofs.sample.op_hits.Given as goal

abbrev pub invariant-loop-row : goal.invariant-loop-row
invariant-loop-row l = Hitting (rows_on l.sheet) l.op (take l.m l.rows) l.n l.row-index
