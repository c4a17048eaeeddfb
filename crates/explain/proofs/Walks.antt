-- Where the walk over the items of a frame stands. Assumes nothing.
use Prim.Native.Nat.{ℕ, ◌+◌, ◌*◌, ◌<◌, ◌≤◌}
use native.Mathlib.Omega.{arith}

-- k of n items are said, and the next begins at `at`
pub record Listing (n k at : ℕ) : Type 0 where
  pub few : k ≤ n
  pub place : at ≤ 255 + 255 * k

pub listing_none : (n i : ℕ) → i < 256 → Listing n 0 i
listing_none n i h = record { few = omega arith; place = omega arith }

pub listing_again : (n k at w : ℕ) → Listing n k at → k < n → w < 256 → Listing n (k + 1) (at + w)
listing_again n k at w s h g = record { few = omega arith; place = omega (arith, s.place) }
