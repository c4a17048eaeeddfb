-- A cost against the best before it.
use Rattle.std.specs.Prelude.{ℕ, Some, None, Float}
use Rattle.std.specs.Prelude.{Option as OptionOf}
use Rattle.std.proofs.Math.Option.{Option, none, some}
use Rattle.std.specs.Float.Ieee.{lt}
use Rattle.cost.specs.Choose.{pick}
use Rattle.cost.specs.Cheapest.{Bid}
use Rattle.item_pricing.specs.declared.items.Costed.{Costed as CostedAs}
use Rattle.bidding.specs.declared.bid.Best.{Best}
use Rattle.bidding.specs.declared.bid.Choice.{Choice}

-- the best so far, where there is one
abbrev pub bid_of : OptionOf Choice → Option (Bid Float)
bid_of (Some c) = some (record { who = c.who; price = c.price })
bid_of None = none

-- "The cheapest replaces only on `c < b`: equal costs keep the lowest atom."
abbrev pub or_best : ℕ → Option Float → Option (Bid Float) → Option (Bid Float)
or_best i none b = b
or_best i (some c) none = some (record { who = i; price = c })
or_best i (some c) (some b) = pick (lt c b.price) (some (record { who = i; price = c })) (some b)

-- a cost against the choice so far
abbrev pub better_choice : ℕ → Float → OptionOf Choice → OptionOf Choice
better_choice i c (Some d) = pick (lt c d.price) (Some (record { who = i; price = c })) (Some d)
better_choice i c None = Some (record { who = i; price = c })

-- a cost against the best so far
abbrev pub better_of : ℕ → CostedAs → Best → Best
better_of i c b = record { choice = better_choice i c.cost b.choice; tallies = c.tallies }
