-- A list of numbers in an array.
use Rattle.std.specs.Prelude.{ℕ, ◌<◌, ◌≤◌, ◌≡◌, List, length, take}
use Rattle.buckets.specs.Atoms.{Row}
use Rattle.buckets.specs.Items.{Each}

-- the first n places of an array are the numbers xs; they are at most m
pub record Listed (into : List ℕ) (n m : ℕ) (xs : List ℕ) : Type 0 where
  pub is : take n into ≡ xs
  pub few : n ≤ m

-- numbers of the rows rs in an array
pub record RowsListed (rs : List Row) (into : List ℕ) (n m : ℕ) (xs : List ℕ) : Type 0 where
  pub listed : Listed into n m xs
  pub many : length xs ≡ n
  pub below : Each (λ j. j < length rs) xs
