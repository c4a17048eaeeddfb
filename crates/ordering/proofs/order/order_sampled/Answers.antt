-- `ordering::order::order_sampled` meets its contract: a key for each item of each atom at most.
use Rattle.ordering.proofs.OrderLaws.{remembers_few, remembers_some}
use Rattle.ordering.proofs.order.order_sampled.Goals as goal

pub order_remembering-requires-clause-last_in_bounds : goal.order_remembering-requires-clause-last_in_bounds
order_remembering-requires-clause-last_in_bounds c = remembers_few _ _ _ 12 _ c.requires.accepts c.requires.places c.if-n-le-SOME_ATOMS.true

pub order_remembering-requires-else-n-le-SOME_ATOMS-clause-last_in_bounds : goal.order_remembering-requires-else-n-le-SOME_ATOMS-clause-last_in_bounds
order_remembering-requires-else-n-le-SOME_ATOMS-clause-last_in_bounds c = remembers_some _ _ c.requires.accepts
