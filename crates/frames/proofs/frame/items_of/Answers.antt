-- `frames::frame::items_of` meets its contract.
use Rattle.frames.proofs.FrameLaws.{lengths_here}
use Rattle.frames.proofs.frame.items_of.Goals as goal

pub items_by-requires : goal.items_by-requires
items_by-requires c = search lengths_here
