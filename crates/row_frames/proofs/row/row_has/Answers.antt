-- `row_frames::row::row_has` meets its contract.
use Rattle.row_frames.proofs.RowLaws.{has_first, has_end, has_here, has_next}
use Rattle.row_frames.proofs.row.row_has.Goals as goal

pub loop-j-init : goal.loop-j-init
loop-j-init c = search has_first

pub returns-then-short_at-class : goal.returns-then-short_at-class
returns-then-short_at-class c = search has_here

pub loop-j-preserved : goal.loop-j-preserved
loop-j-preserved c = search has_next

pub returns : goal.returns
returns c = search has_end
