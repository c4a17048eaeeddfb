-- `item_pricing::items::item_selectivity` meets its contract: by whether there is a sample.
use Rattle.prices.proofs.PriceLaws.{by_sample, by_row}
use Rattle.item_pricing.proofs.items.item_selectivity.Goals as goal

pub returns-in-Some : goal.returns-in-Some
returns-in-Some c = search by_sample

pub returns-in-None : goal.returns-in-None
returns-in-None c = search by_row
