use Rattle.extracting.proofs.ElementLaws.{part_fits, part_near, items_near, line_near, opened}
use borrow.Author.Rules.{rules}
use Rattle.extracting.proofs.elements.expand.Goals as goal

pub put_first-a-requires : goal.put_first-a-requires
put_first-a-requires c = record { n_in_bounds = search part_fits; n_bound = search rules; at_bound = search rules }

pub put_items-b-requires : goal.put_items-b-requires
put_items-b-requires c = record { w_bound = search rules; from_bound = search part_near }

pub put_end-requires : goal.put_end-requires
put_end-requires c = search items_near

pub returns : goal.returns
returns c = record { upper_bound = search line_near; puts_frames = search opened }
