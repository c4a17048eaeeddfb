-- `extracting::children::read_children` meets its contract: the children left give what all give.
use borrow.Author.Rules.{rules}
use Rattle.extracting.proofs.ChildLaws.{reading_none, child_below, reading_again, reading_all, children_marked, children_room}
use Rattle.extracting.proofs.children.read_children.Goals as goal

pub loop-k-init : goal.loop-k-init
loop-k-init c = search reading_none

pub read_child-at-requires : goal.read_child-at-requires
read_child-at-requires c = record { j_bound = search rules; j_value = search child_below; at_bound = search rules }

pub loop-k-preserved : goal.loop-k-preserved
loop-k-preserved c = search reading_again

pub returns : goal.returns
returns c = record { bound_after = search children_marked; upper_bound = search children_room; puts_frames = search reading_all }
