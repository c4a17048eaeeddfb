-- What is given where no table is asked for: the query's sheet with its index. Assumes nothing.
use Prim.Native.Nat.{ℕ, ◌≤◌}
use mathlib.Core.Path.{◌≡◌, sym, ◌∙◌}
use mathlib.Core.Bool.{Bool, true, false}
use mathlib.Core.List.{List}
use native.Mathlib.Omega.{arith}
use lib.ListN.{length, replicate, length-replicate}
use Rattle.frame_tests.specs.Sheet.{frames_in}
use Rattle.reading.specs.Index.{Indexed}
use Rattle.buckets.specs.RowIndex.{rows_at}
use Rattle.sampled_frames.specs.Asks.{asks_table}
use Rattle.sampled_frames.specs.Given.{Keyed, Given}
use Rattle.sampled_frames.proofs.KeyLaws.{part_whole}
use Rattle.reading.specs.Second.{query_reading}
use Rattle.reading.proofs.QueryLaws.{table_handed}
use Rattle.first_reading.specs.First.{frames_of, Sheet}
use Rattle.first_reading.specs.Reading.{Reading}
use Rattle.first_reading.specs.Reading.{Accepted}
use Rattle.gathering.specs.Gathered.{Asks}

pub keyed_alone : (s i : List ℕ) → Indexed s i → length i ≤ rows_at → Keyed s i
keyed_alone s i d l = record { found = λ k p. rw (← part_whole i l) (record { falling = d.are.falling; is = d.are.is k p.proper }) }

pub given_alone : (s i : List ℕ) (b : Bool) → Keyed s i → b ≡ asks_table (frames_in s) → b ≡ false → Given s i
given_alone s i b k q e = record { keyed = k; rows = λ h. let z : ◌≡◌ {A = ℕ} 0 1 = cc in absurd (omega arith) }

-- a query that asks for a table has one beside it
module _ (x : List ℕ) (h : Bool) (v : Reading) (is : v ≡ query_reading h x) (n c : ℕ) (e : v ≡ Accepted n c) (s : List ℕ) (sh : Sheet x s) (b : Bool) (q : b ≡ asks_table (frames_in s)) (t : b ≡ true) where
  pub taken_table : asks_table (frames_of x) ≡ true
  taken_table = sym (sym t ∙ q ∙ rw sh.frames)

  pub handed_table : h ≡ true
  handed_table = (table_handed h x n c (sym is ∙ e) taken_table).0

  pub asks : Asks x
  asks = record { lines = n; atoms = c; is = rw (← handed_table) (sym is ∙ e) }

-- an index of the query's frames alone is short
pub zeros_short : (n : ℕ) → n ≤ rows_at → length {A = ℕ} (replicate n 0) ≤ rows_at
zeros_short n h = rw (length-replicate {A = ℕ} n 0) h
