-- `choosing::choose::cheapest` meets its contract: the atoms left, from the best so far, give what all give, and so do their costs.
use Rattle.std.proofs.Common.{ap, not}
use mathlib.Core.Path.{refl, sym}
use Rattle.prices.proofs.PriceLaws.{row_within, row_priced}
use Rattle.passes.proofs.LocatedLaws.{place_sized, place_within, line_ready}
use Rattle.bidding.proofs.OwnLaws.{own_samples, own_memo}
use Rattle.choosing.proofs.ChoiceLaws.{scanning_none, scanning_not, cost_room, scanning_cost, scanned}
use Rattle.choosing.proofs.choose.cheapest.Goals as goal

pub loop-i-init : goal.loop-i-init
loop-i-init c = scanning_none _ _ _ _ _ _ _ _ _ c.requires.remembers

pub atom_line-frame-requires : goal.atom_line-frame-requires
atom_line-frame-requires c = record { bound_most_in_bounds = place_sized _ _ _ c.requires.located _ c.loop-i-test.true; lined = place_within _ _ _ c.requires.located _ c.loop-i-test.true }

pub is_candidate-requires : goal.is_candidate-requires
is_candidate-requires c = line_ready _ _ _ c.requires.located _ c.loop-i-test.true _ c.atom_line-frame.ensures

pub loop-i-preserved-then-not-is_candidate : goal.loop-i-preserved-then-not-is_candidate
loop-i-preserved-then-not-is_candidate c = scanning_not _ _ _ _ _ _ _ _ _ _ _ _ _ _ _ c.loop-i.invariant c.requires.located c.loop-i-test.true _ c.atom_line-frame.ensures _ refl _ c.is_candidate.ensures (ap not c.if-not-is_candidate.true) _ c.note_cost.ensures

pub row_of-row-requires : goal.row_of-row-requires
row_of-row-requires c = row_within _ _ _ _ c.requires.priced _ c.loop-i-test.true

pub slice_bounds-estimate_cost-end : goal.slice_bounds-estimate_cost-end
slice_bounds-estimate_cost-end c = sym c.requires.bound_len.0

pub slice_bounds-estimate_cost-end-in-loop-i : goal.slice_bounds-estimate_cost-end-in-loop-i
slice_bounds-estimate_cost-end-in-loop-i c = sym c.requires.bound_len.1

pub estimate_cost-c-requires : goal.estimate_cost-c-requires
estimate_cost-c-requires c = record { atom_line = line_ready _ _ _ c.requires.located _ c.loop-i-test.true _ c.atom_line-frame.ensures; samples = own_samples _ _ _ _ _ c.loop-i.invariant.memo c.requires.samples; remembers = own_memo _ _ _ _ _ c.loop-i.invariant.memo; s_in_bounds = cost_room _ _ _ _ _ _ _ _ _ _ _ _ _ _ _ c.loop-i.invariant c.requires.located c.loop-i-test.true _ c.atom_line-frame.ensures _ refl _ c.is_candidate.ensures (ap not c.if-not-is_candidate.false) c.requires.none_in_bounds; given = c.requires.given; atom_prices = rw c.row_of-row.ensures (row_priced _ _ _ _ c.requires.priced _ c.loop-i-test.true _ _ refl c.atom_line-frame.ensures) }

pub loop-i-preserved : goal.loop-i-preserved
loop-i-preserved c = scanning_cost _ _ _ _ _ _ _ _ _ _ _ _ _ _ _ c.loop-i.invariant c.requires.located c.loop-i-test.true _ c.atom_line-frame.ensures _ refl _ c.is_candidate.ensures (ap not c.if-not-is_candidate.false) _ _ _ _ _ _ c.estimate_cost-c.ensures c.bits_of.ensures c.note_cost-in-loop-i.ensures c.better-b.ensures c.keys-1.given c.values-1.given

pub shape_of-keys : goal.shape_of-keys
shape_of-keys c = c.loop-i.invariant.keys_size

pub shape_of-values : goal.shape_of-values
shape_of-values c = c.loop-i.invariant.values_size

pub shape_of-costs : goal.shape_of-costs
shape_of-costs c = c.loop-i.invariant.costs_size

pub returns : goal.returns
returns c = scanned _ _ _ _ _ _ _ _ _ _ _ _ _ _ _ c.loop-i.invariant c.requires.located c.loop-i-test.false
