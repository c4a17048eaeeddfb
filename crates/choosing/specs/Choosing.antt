-- The choice by cost, over what the costs remember alone: the atoms in turn, each against the best before it.
use Rattle.cost.specs.Settings.{Sampled}
use Rattle.std.specs.Prelude.{ℕ, ◌≤◌, ◌≡◌, List, [], ◌∷◌, map, length, take, Float}
use Rattle.std.proofs.Math.Option.{Option}
use Rattle.cost.specs.Atoms.{Atom}
use Rattle.cost.specs.Bound.{Bound}
use Rattle.cost.specs.Scheduling.{atom_of}
use Rattle.cost.specs.Cheapest.{Bid, Scan}
use Rattle.cost.specs.Emitters.{Emitters}
use Rattle.cost.specs.Sampling.{Tally}
use Rattle.cost.specs.Choice.{offer, offered}
use Rattle.cost.specs.Memo.{tally_at}
use Rattle.bidding.specs.Remembering.{Remembers}
use Rattle.bidding.specs.declared.bid.Best.{Best}
use Rattle.cost_bits.specs.CostBits.{cost_bits}
use Rattle.bidding.specs.Bidding.{bid_of, or_best}

-- the atoms qs of the numbers ks
unfoldable pub candidates : List (List ℕ) → Emitters → List Atom → Bound → Bound → List ℕ → Tally → Option (Bid Float) → Scan Tally Float
candidates fs em qs U B [] t b = record { best = b; next = t }
candidates fs em qs U B (i ∷ ks) t b = candidates fs em qs U B ks (offered fs em U B i (atom_of qs i) t) (or_best i (offer fs em U B i (atom_of qs i) t) b)

-- the result r and the arrays stand for the scan c and the costs os
pub record Chose (fs : List (List ℕ)) (how : Sampled) (keys : List ℕ) (values : List Float) (costs : List ℕ) (r : Best) (c : Scan Tally Float) (os : List (Option Float)) : Type 0 where
  pub best : bid_of r.choice ≡ c.best
  pub next : tally_at keys r.tallies ≡ c.next
  pub memo : Remembers fs how keys values r.tallies
  pub costs_are : length os ≤ length costs → take (length os) costs ≡ map cost_bits os
