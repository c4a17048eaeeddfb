use Rattle.joining.proofs.JoinLaws.{class_fits, join_bound, join_free}
use borrow.Author.Rules.{rules}
use Rattle.joining.proofs.join.join.Goals as goal

pub put_frame-requires : goal.put_frame-requires
put_frame-requires c = record { bytes_in_bounds = search class_fits; at_bound = search rules }

pub returns-then-is_set : goal.returns-then-is_set
returns-then-is_set c = search join_bound

pub returns : goal.returns
returns c = search join_free
