-- `table_samples::tables::table_probe` meets its contract.
use Rattle.table_samples.specs.TableSamples.{table_probe}
use Rattle.table_samples.proofs.BucketLaws.{bucket_rows, bucket_restricted}
use Rattle.table_samples.proofs.tables.table_probe.Goals as goal

pub op_hits-requires : goal.op_hits-requires
op_hits-requires c = record { rows_indexed = c.requires; numbers_room = search bucket_rows }

pub returns : goal.returns
unfolding table_probe
returns c = search bucket_restricted
