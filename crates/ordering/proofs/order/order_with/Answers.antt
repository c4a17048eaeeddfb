-- `ordering::order::order_with` meets its contract: the prices, then the rounds.
use native.Mathlib.Omega.{arith}
use Rattle.ordering.proofs.OrderLaws.{places_located, items_fit}
use Rattle.ordering.proofs.order.order_with.Goals as goal

pub whole_as_slice-fill_prices : goal.whole_as_slice-fill_prices
whole_as_slice-fill_prices g c = omega (arith, c.requires.few_prices)

pub fill_prices-requires-clause-located : goal.fill_prices-requires-clause-located
fill_prices-requires-clause-located g c = places_located _ _ _ c.requires.accepts c.requires.places

pub fill_prices-requires-clause-few_items : goal.fill_prices-requires-clause-few_items
fill_prices-requires-clause-few_items g c = items_fit _ _ _ c.requires.accepts c.requires.places

pub shared_whole_as_slice-schedule : goal.shared_whole_as_slice-schedule
shared_whole_as_slice-schedule g c = omega (arith, c.requires.few_prices)

pub schedule-requires-clause-located : goal.schedule-requires-clause-located
schedule-requires-clause-located g c = places_located _ _ _ c.requires.accepts c.requires.places
