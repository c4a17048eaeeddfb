-- `prices::table::fill_items` meets its contract: one more item is priced.
use Rattle.prices.proofs.PriceLaws.{items_none, item_slot, items_again, items_all}
use Rattle.prices.proofs.table.fill_items.Goals as goal

pub loop-j-init : goal.loop-j-init
loop-j-init c = search items_none

pub bounds-row-j : goal.bounds-row-j
bounds-row-j c = search item_slot

pub loop-j-preserved : goal.loop-j-preserved
loop-j-preserved c = search items_again

pub returns : goal.returns
returns c = search items_all
