-- `buckets::sample::count_rows` meets its contract.
use Rattle.buckets.proofs.SampleLaws.{Walk}
use Rattle.buckets.specs.RowIndex.{rows_on}
use Rattle.buckets.proofs.sample.count_rows.Given as goal

abbrev pub invariant-loop-e : goal.invariant-loop-e
invariant-loop-e l = Walk (rows_on l.sheet) l.index l.w l.e l.n

abbrev pub decreases-loop-e : goal.decreases-loop-e
decreases-loop-e l = l.e
