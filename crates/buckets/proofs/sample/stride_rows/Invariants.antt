-- `buckets::sample::stride_rows` meets its contract.
use Rattle.buckets.proofs.SampleLaws.{Striding}
use Rattle.buckets.specs.RowIndex.{rows_on}
use Rattle.buckets.proofs.sample.stride_rows.Given as goal

abbrev pub invariant-loop-j : goal.invariant-loop-j
invariant-loop-j l = Striding (rows_on l.sheet) l.index l.w l.n l.m l.initial.out l.out l.e l.k l.j

abbrev pub decreases-loop-j : goal.decreases-loop-j
decreases-loop-j l = l.e
