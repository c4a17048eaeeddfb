-- `prices::table::item_fan` meets its contract: a child or an element.
use Rattle.prices.proofs.PriceLaws.{element_fan, child_fan}
use Rattle.prices.proofs.table.item_fan.Goals as goal

pub returns-then-g : goal.returns-then-g
returns-then-g c = search element_fan

pub returns : goal.returns
returns c = search child_fan
