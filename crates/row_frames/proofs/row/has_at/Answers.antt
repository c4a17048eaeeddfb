-- `row_frames::row::has_at` meets its contract.
use Rattle.row_frames.proofs.RowLaws.{at_place}
use Rattle.row_frames.proofs.row.has_at.Goals as goal

pub returns-then-class-ne-UNSET : goal.returns-then-class-ne-UNSET
returns-then-class-ne-UNSET c = search at_place
