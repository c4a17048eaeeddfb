-- `prices::table::fill_row` meets its contract: the first two numbers, then the items.
use lib.Ieee.{binary64, mul}
use Rattle.prices.proofs.PriceLaws.{row_slot, items_fit, row_size_lem, row_filled}
use Rattle.prices.proofs.table.fill_row.Goals as goal

pub bounds-row-1 : goal.bounds-row-1
bounds-row-1 c = row_slot c.args.row.now c.base_card-base.result (mul binary64 c.base_card-base.result c.args.repr) _ c.requires.frame_in_bounds

pub fill_items-requires : goal.fill_items-requires
fill_items-requires c = record { count_bound = c.items_at-g.ensures.few; count_in_bounds = items_fit c.args.row.now c.base_card-base.result (mul binary64 c.base_card-base.result c.args.repr) _ _ c.items_at-g.ensures c.requires.frame_in_bounds; given = c.requires.given }

pub shape_of-row : goal.shape_of-row
shape_of-row c = row_size_lem c.args.row.now c.base_card-base.result (mul binary64 c.base_card-base.result c.args.repr) _ _ _ _ c.fill_items.ensures

pub returns : goal.returns
returns c = row_filled _ _ _ _ c.args.row.now _ c.base_card-base.result c.args.repr c.requires.frame_in_bounds c.items_at-g.ensures c.base_card-base.ensures c.requires.repr_value c.fill_items.ensures
