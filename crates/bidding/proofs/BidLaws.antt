-- A candidate, and the better of two. Proved by the tests of the code.
use Prim.Native.Nat.{ℕ}
use mathlib.Core.Path.{◌≡◌, refl}
use mathlib.Core.Bool.{Bool, true, false, not}
use mathlib.Core.Option.{some}
use lib.Ieee.{lt}
use borrow.Author.Tests.{not-true, not-false}
use Rattle.cost.specs.Atoms.{Atom}
use Rattle.cost.specs.Bound.{Bound, has}
use Rattle.cost.specs.Scheduling.{scans}
use Rattle.cost.specs.Cheapest.{is_candidate}
use Rattle.item_pricing.specs.declared.items.Costed.{Costed as CostedAs}
use Rattle.std.specs.Prelude.{Some, None}
use Rattle.std.specs.Prelude.{Option as OptionOf}
use Rattle.bidding.specs.declared.bid.Best.{Best}
use Rattle.bidding.specs.declared.bid.Choice.{Choice}
use Rattle.bidding.specs.Bidding.{bid_of, or_best, better_choice, better_of}

module _ (U : Bound) (i : ℕ) (a : Atom) (t : Bool) (is : t ≡ has U i) where
  pub candidate_used : not t ≡ false → not t ≡ is_candidate U i a
  candidate_used h = let e : t ≡ true = not-false t h in rw (← is, e)

  pub candidate_scans : not t ≡ true → (u : Bool) → u ≡ scans a → u ≡ is_candidate U i a
  candidate_scans h u e = let f : t ≡ false = not-true t h in rw (← is, f, e)

-- a cost against the best so far
module _ (i : ℕ) (c : CostedAs) (b : Best) where
  pub better_bid : bid_of (better_of i c b).choice ≡ or_best i (some c.cost) (bid_of b.choice)
  better_bid = by b.choice
    where
      at : (d : Choice) (l : Bool) → lt c.cost d.price ≡ l → bid_of (better_choice i c.cost (Some d)) ≡ or_best i (some c.cost) (bid_of (Some d))
      at d true e = rw e
      at d false e = rw e

      by : (o : OptionOf Choice) → bid_of (better_choice i c.cost o) ≡ or_best i (some c.cost) (bid_of o)
      by (Some d) = at d (lt c.cost d.price) refl
      by None = refl
