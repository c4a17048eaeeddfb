-- Numbers of two bytes, copied from a frame into an array: the room that they need, and what is copied.
use Rattle.std.specs.Prelude.{ℕ, ◌+◌, ◌<◌, ◌≤◌, ◌≡◌, List, ◌++◌, length, take}
use Rattle.reading.specs.Digits.{short_at}
use Rattle.records.specs.Items.{items_at}

pub record CopyRoom (i m : ℕ) (K : List ℕ) (k : ℕ) : Type 0 where
  pub from : i < 256
  pub few : m < 256
  pub room : k + m ≤ length K

-- m numbers of two bytes, from byte i of the frame f on, laid behind the first k of K
pub record Copied (f : List ℕ) (i m : ℕ) (K : List ℕ) (k : ℕ) (K' : List ℕ) : Type 0 where
  pub is : take (k + m) K' ≡ take k K ++ items_at short_at 2 f i m
  pub size : length K' ≡ length K
