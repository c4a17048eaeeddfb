-- `buckets::sample::op_hits` meets its contract.
use Rattle.buckets.proofs.SampleLaws.{hitting_first, hitting_end, hitting_few, hit_row, hitting_other, hitting_next}
use Rattle.buckets.proofs.sample.op_hits.Goals as goal
use Rattle.buckets.proofs.sample.op_hits.Goals.{then-byte_at-op, else-byte_at-op}

pub loop-row-init : goal.loop-row-init
loop-row-init c = search hitting_first

pub row_frame-requires : goal.row_frame-requires
row_frame-requires c = record { rows_indexed = c.requires.rows_indexed; j_in_bounds = hit_row _ _ _ _ c.requires.numbers_room c.loop-row-test.true }

pub loop-row-preserved : goal.loop-row-preserved
loop-row-preserved c = elim c.if-byte_at-op.branch [
  | then-byte_at-op w ↦ rw w.n-is (search hitting_next)
  | else-byte_at-op w ↦ rw w.n-is (search hitting_other)
]

pub returns : goal.returns
returns c = (search hitting_end, search hitting_few)
