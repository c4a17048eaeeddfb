-- `table_samples::tables::class_at` meets its contract.
use Rattle.table_samples.proofs.RowClasses.{class_none, class_some}
use Rattle.table_samples.proofs.tables.class_at.Goals as goal

pub returns-then-child_count-p : goal.returns-then-child_count-p
returns-then-child_count-p c = search class_none

pub returns : goal.returns
returns c = search class_some
