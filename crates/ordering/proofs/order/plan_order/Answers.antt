-- `ordering::order::plan_order` meets its contract: as many rounds as atoms, and one, are enough.
use Rattle.scheduling.proofs.LoopLaws.{rounds_enough}
use Rattle.ordering.proofs.OrderLaws.{places_located}
use Rattle.ordering.proofs.order.plan_order.Goals as goal

pub returns : goal.returns
returns c = rounds_enough _ _ _ (places_located _ _ _ c.requires.accepts c.requires.places) _ _ c.find_order.ensures
