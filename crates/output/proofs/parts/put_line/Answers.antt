use Rattle.output.proofs.PutLaws.{fixed_many, fixed_near, fixed_put}
use borrow.Author.Rules.{rules}
use Rattle.output.proofs.parts.put_line.Goals as goal

pub put_first-i-requires : goal.put_first-i-requires
put_first-i-requires c = record { n_in_bounds = search fixed_many; n_bound = search rules; at_bound = search rules }

pub put_end-requires : goal.put_end-requires
put_end-requires c = search fixed_near

pub returns : goal.returns
returns c = search fixed_put
