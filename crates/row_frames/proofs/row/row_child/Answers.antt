-- `row_frames::row::row_child` meets its contract.
use Rattle.row_frames.proofs.RowLaws.{child_past, child_there}
use Rattle.row_frames.proofs.row.row_child.Goals as goal

pub returns-then-child_count-p : goal.returns-then-child_count-p
returns-then-child_count-p c = search child_past

pub returns : goal.returns
returns c = search child_there
