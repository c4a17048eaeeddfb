-- `table_samples::tables::table_drivers` meets its contract.
use Rattle.table_samples.proofs.BucketLaws.{drivers_stride, drivers_taken}
use Rattle.table_samples.proofs.tables.table_drivers.Goals as goal

pub stride_rows-requires : goal.stride_rows-requires
stride_rows-requires c = record { rows_indexed = c.requires.rows_indexed; stride_room = drivers_stride _ c.args.op _ _ _ _ c.args.nodes.now c.from.ensures c.count_rows-n.ensures c.min-m.ensures c.requires.k_in_bounds }

pub returns : goal.returns
returns c = drivers_taken _ c.args.op _ _ _ _ c.args.nodes.now c.from.ensures c.count_rows-n.ensures c.min-m.ensures _ c.stride_rows.ensures.0
