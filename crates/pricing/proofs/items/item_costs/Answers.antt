-- `pricing::items::item_costs` meets its contract: the items left give what all give.
use Rattle.pricing.proofs.ItemsLaws.{counting_none, next_small, next_at_lem, next_room, counting_again, counting_all}
use Rattle.item_pricing.proofs.OwnLaws.{own_samples, own_memo}
use Rattle.prices.proofs.PriceLaws.{item_priced}
use Rattle.pricing.proofs.items.item_costs.Goals as goal

pub loop-k-init : goal.loop-k-init
loop-k-init c = search counting_none

pub item_at-x-requires : goal.item_at-x-requires
item_at-x-requires c = let p = next_small _ _ _ _ _ _ _ _ _ _ _ _ _ c.loop-k.invariant c.items_at-g.ensures c.loop-k-test.true in record { k_bound = p.0; k_bound_2 = p.1 }

pub item_cost-c-requires : goal.item_cost-c-requires
item_cost-c-requires c = record { at_bound = next_at_lem _ _ _ _ _ _ _ _ _ _ _ _ _ c.loop-k.invariant _ c.item_at-x.ensures c.loop-k-test.true c.items_at-g.ensures; samples = own_samples _ _ _ _ _ c.loop-k.invariant.memo c.requires.samples; remembers = own_memo _ _ _ _ _ c.loop-k.invariant.memo; c_in_bounds = next_room _ _ _ _ _ _ _ _ _ _ _ _ _ c.loop-k.invariant _ c.item_at-x.ensures c.loop-k-test.true c.requires.start_in_bounds; given = c.requires.given; item_priced = item_priced _ _ _ _ _ _ _ c.items_at-g.ensures c.requires.row_items c.item_at-x.ensures c.loop-k-test.true }

pub loop-k-preserved : goal.loop-k-preserved
loop-k-preserved c = counting_again _ _ _ _ _ _ _ _ _ _ _ _ _ c.loop-k.invariant _ c.item_at-x.ensures c.loop-k-test.true _ _ _ c.items_at-g.ensures c.keys-1.given c.values-1.given c.item_cost-c.ensures

pub returns : goal.returns
returns c = search counting_all
