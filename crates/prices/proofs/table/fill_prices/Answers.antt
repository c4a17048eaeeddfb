-- `prices::table::fill_prices` meets its contract: one more row, and the others as before.
use native.Mathlib.Omega.{arith}
use Rattle.prices.proofs.PriceLaws.{repr_is, pricing_none, row_ends, row_room, pricing_again, pricing_all}
use Rattle.prices.proofs.table.fill_prices.Goals as goal

pub loop-k-init : goal.loop-k-init
loop-k-init c = search pricing_none

pub atom_line-frame-requires : goal.atom_line-frame-requires
atom_line-frame-requires c = record { bound_most_in_bounds = omega (arith, c.requires.located.size, c.loop-k-test.true); lined = c.requires.located.within _ c.loop-k-test.true }

pub slice_bounds-fill_row-end : goal.slice_bounds-fill_row-end
slice_bounds-fill_row-end c = row_ends _ _ _ _ _ _ c.loop-k.invariant c.loop-k-test.true c.requires.n_in_bounds

pub fill_row-requires : goal.fill_row-requires
fill_row-requires c = record { repr_value = repr_is _ _ _ _ c.by_repr.ensures c.nodes.ensures c.path_selectivity-repr.ensures; frame_in_bounds = row_room _ _ _ _ _ _ c.loop-k.invariant c.loop-k-test.true c.requires.n_in_bounds _ c.atom_line-frame.ensures c.requires.few_items; given = c.requires.given }

pub loop-k-preserved : goal.loop-k-preserved
loop-k-preserved c = pricing_again _ _ _ _ _ _ c.loop-k.invariant c.loop-k-test.true c.requires.n_in_bounds _ c.atom_line-frame.ensures _ c.prices-1.given.0 c.fill_row.ensures c.prices-1.given.1

pub shape_of-prices : goal.shape_of-prices
shape_of-prices c = c.loop-k.invariant.size

pub returns : goal.returns
returns c = search pricing_all
