-- `extracting::children::read_child` meets its contract: the frame that its bytes begin with.
use Rattle.extracting.proofs.ChildLaws.{begun_put}
use borrow.Author.Rules.{rules}
use Rattle.extracting.proofs.children.read_child.Goals as goal

pub returns : goal.returns
returns c = record { bound_after = search rules; puts_frames = search begun_put }
