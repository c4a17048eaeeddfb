-- `ordering::order::order_in` meets its contract: a table with a row for each atom.
use Rattle.ordering.proofs.OrderLaws.{rows_fit}
use Rattle.ordering.proofs.order.order_in.Goals as goal

pub order_with-requires-else-n-le-SOME_ATOMS-clause-n_in_bounds : goal.order_with-requires-else-n-le-SOME_ATOMS-clause-n_in_bounds
order_with-requires-else-n-le-SOME_ATOMS-clause-n_in_bounds c = rows_fit _ _ _ c.requires.accepts c.requires.places
