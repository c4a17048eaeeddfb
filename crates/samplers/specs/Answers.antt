-- What the sampler's answers ask, and the nodes that may be asked for.
use Rattle.std.specs.Prelude.{ℕ, ◌<◌, ◌≡◌, Bool, true, List, length, get_or}
use Rattle.table_samples.specs.RowIndex.{RowsIndexed, rows_on}
use Rattle.query.specs.Given.{Given}
use Rattle.table_samples.specs.Listed.{Listed}

-- the sheet s with the index i answers, from the rows of a table where `table` holds
pub record Answers (s i : List ℕ) (table : Bool) : Type 0 where
  pub given : Given s i
  pub rows : table ≡ true → RowsIndexed (rows_on s) s i

-- a node that may be asked for: a row's number, where a table answers
pub record Known (s : List ℕ) (table : Bool) (node : ℕ) : Type 0 where
  pub below : table ≡ true → node < length (rows_on s)

-- each of the first n may be asked for
pub record AllKnown (s : List ℕ) (table : Bool) (into : List ℕ) (n : ℕ) : Type 0 where
  pub each : (j : ℕ) → j < n → Known s table (get_or into j 0)

-- nodes in an array
pub record Drivers (s : List ℕ) (table : Bool) (into : List ℕ) (n m : ℕ) (xs : List ℕ) : Type 0 where
  pub listed : Listed into n m xs
  pub known : AllKnown s table into n
