-- `buckets::index::row_frame` meets its contract.
use Rattle.buckets.proofs.IndexLaws.{frame_of_lem}
use Rattle.buckets.proofs.index.row_frame.Goals as goal

pub returns : goal.returns
returns c = search frame_of_lem
