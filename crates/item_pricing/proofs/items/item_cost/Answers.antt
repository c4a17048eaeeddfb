-- `item_pricing::items::item_cost` meets its contract: where the item is bound.
use Rattle.item_pricing.proofs.ItemLaws.{unbound_stands, item_room, item_stands}
use borrow.Author.Rules.{rules}
use Rattle.item_pricing.proofs.items.item_cost.Goals as goal

pub returns-then-not-x : goal.returns-then-not-x
returns-then-not-x c = search unbound_stands

pub sampled-s-requires : goal.sampled-s-requires
sampled-s-requires c = record { j_bound = search rules; samples = search rules; remembers = search rules; s_in_bounds = search item_room; given = search rules }

pub item_selectivity-requires : goal.item_selectivity-requires
item_selectivity-requires c = record { given = c.requires.given; item_priced = c.requires.item_priced }

pub returns : goal.returns
returns c = search item_stands
