-- `joining::join::free_join` meets its contract: by whether an operand is bound.
use Rattle.joining.proofs.JoinLaws.{op_fits, alone_put}
use borrow.Author.Rules.{rules}
use Rattle.joining.proofs.join.free_join.Goals as goal

pub put_frame-requires : goal.put_frame-requires
put_frame-requires c = record { bytes_in_bounds = search op_fits; at_bound = search rules }

pub returns-then-count-eq0 : goal.returns-then-count-eq0
returns-then-count-eq0 c = search alone_put
