-- What a query is planned by: its frames, and behind them those of a table where frame 24 takes samples from it.
use Rattle.std.specs.Prelude.{ℕ, ◌≡◌, true, List, length, get_or, take, leb}
use Rattle.buckets.specs.Choose.{pick}
use Rattle.buckets.specs.Kinds.{kind_at, query}
use Rattle.buckets.specs.Sheet.{frames_in}
use Rattle.buckets.specs.Index.{Proper, Finds}
use Rattle.buckets.specs.RowIndex.{rows_at, RowsIndexed, rows_on}
use Rattle.given.specs.Asks.{asks_table}

-- a whole key of a query's frame
pub record QueryKey (k : List ℕ) : Type 0 where
  pub proper : Proper k
  pub of_query : (kind_at (get_or k 0 0)).text ≡ query

-- of an index the part for the query's frames; the rows of a table are indexed behind it
abbrev pub query_part : List ℕ → List ℕ
query_part i = pick (leb (length i) rows_at) i (take rows_at i)

-- on the sheet s with the index i the query's frames are found by their keys
pub record Keyed (s i : List ℕ) : Type 0 where
  pub found : (k : List ℕ) → QueryKey k → Finds s (query_part i) k

-- and where frame 24 asks for a table its rows stand behind them, indexed
pub record Given (s i : List ℕ) : Type 0 where
  pub keyed : Keyed s i
  pub rows : asks_table (frames_in s) ≡ true → RowsIndexed (rows_on s) s i
