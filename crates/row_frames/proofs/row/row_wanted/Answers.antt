-- `row_frames::row::row_wanted` meets its contract.
use Rattle.row_frames.proofs.RowLaws.{wanted_op, wanted_at, wanted_among}
use Rattle.row_frames.proofs.row.row_wanted.Goals as goal

pub returns-in-2 : goal.returns-in-2
returns-in-2 c = search wanted_op

pub returns-in-0 : goal.returns-in-0
returns-in-0 c = search wanted_at

pub returns-in_default : goal.returns-in_default
returns-in_default c = search wanted_among
