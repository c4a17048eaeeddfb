-- `pricing::costs::estimate_cost` meets its contract: kind by kind.
use Rattle.std.proofs.Common.{ap, not}
use Rattle.pricing.proofs.CostLaws.{test_stands, literal_stands, node_stands, items_room, items_stand}
use Rattle.pricing.proofs.costs.estimate_cost.Goals as goal

pub returns-then-not-scans : goal.returns-then-not-scans
returns-then-not-scans c = search test_stands

pub returns-then-is_literal : goal.returns-then-is_literal
returns-then-is_literal c = search literal_stands

pub returns-then-is_set : goal.returns-then-is_set
returns-then-is_set c = search node_stands

pub item_costs-requires : goal.item_costs-requires
item_costs-requires c = record { samples = c.requires.samples; remembers = c.requires.remembers; start_in_bounds = items_room _ _ _ _ _ _ c.args.s _ c.scans.ensures c.requires.atom_line _ c.requires.atom_prices _ _ c.byte_at.ensures _ c.is_literal.ensures (ap not c.if-not-scans.false) c.if-is_literal.false _ c.byte_at-2.ensures _ c.is_set.ensures c.if-is_set.false c.requires.s_in_bounds; given = c.requires.given; row_items = c.requires.atom_prices.items }

pub returns : goal.returns
returns c = items_stand _ _ _ _ _ _ c.args.s _ c.scans.ensures c.requires.atom_line _ c.requires.atom_prices _ _ c.byte_at.ensures _ c.is_literal.ensures (ap not c.if-not-scans.false) c.if-is_literal.false _ c.byte_at-2.ensures _ c.is_set.ensures c.if-is_set.false _ _ _ _ c.item_costs.ensures
