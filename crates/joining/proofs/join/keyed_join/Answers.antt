-- `joining::join::keyed_join` meets its contract: its pieces in turn.
use Rattle.joining.proofs.JoinLaws.{head_fits, head_near, lookups_near, keyed_put}
use borrow.Author.Rules.{rules}
use Rattle.joining.proofs.join.keyed_join.Goals as goal

pub put_first-a-requires : goal.put_first-a-requires
put_first-a-requires c = record { n_in_bounds = search head_fits; n_bound = search rules; at_bound = search rules }

pub put_lookups-b-requires : goal.put_lookups-b-requires
put_lookups-b-requires c = search head_near

pub put_end-requires : goal.put_end-requires
put_end-requires c = search lookups_near

pub returns : goal.returns
returns c = search keyed_put
