-- A query that asks for a table, and the table behind it: one sheet, one index.
use Rattle.std.specs.Prelude.{ℕ, ◌<◌, ◌≤◌, ◌≡◌, true, List, ◌++◌, length, get_or, take, Result, Ok, Err, Option, is_some}
use Rattle.frame_tests.specs.Sheet.{frames_in}
use Rattle.reading.specs.Index.{Indexed}
use Rattle.first_reading.specs.First.{frames_of, Sheet}
use Rattle.frame_tests.specs.declared.tests.Text.TheVariants.{Query, Table}
use denote.Ref.{Bor}
use Rattle.first_reading.specs.declared.first.Refusal.{Refusal}
use Rattle.first_reading.specs.Reading.{Accepted, Refused}
use Rattle.reading.specs.Second.{reading, query_reading}
use Rattle.reading.specs.IndexedReading.{Blank}
use Rattle.buckets.specs.RowIndex.{rows_at, table_index}
use Rattle.sampled_frames.specs.Given.{Given}
use Rattle.sampled_frames.specs.Sampled.{sampled_from}
use Rattle.ordering.specs.Accepts.{Accepts}

-- the query x is accepted with a table beside it
pub record Asks (x : List ℕ) : Type 0 where
  pub lines : ℕ
  pub atoms : ℕ
  pub is : query_reading true x ≡ Accepted lines atoms

-- what is lent: a sheet for both texts, an index for the query's frames and the table's rows, and one for the table's own keys
pub record BothLent (t s i k : List ℕ) : Type 0 where
  pub sheet : length s ≡ 65536
  pub size : length i ≡ table_index
  pub blank : (j : ℕ) → get_or i j 0 ≡ 0
  pub keys : Blank t k

-- the query x is read: its frames are the first `size` bytes of the sheet s, and the first numbers of i their index
pub record QueryLaid (x t s : List ℕ) (size : ℕ) (i k : List ℕ) : Type 0 where
  pub lines : ℕ
  pub atoms : ℕ
  pub is : reading Query x ≡ Accepted lines atoms
  pub laid : Sheet x (take size s)
  pub fits : size < 32768
  pub sheet : length s ≡ 65536
  pub indexed : Indexed (take size s) (take rows_at i)
  pub length_is : length i ≡ table_index
  pub blank : (j : ℕ) → rows_at ≤ j → get_or i j 0 ≡ 0
  pub keys : Blank t k

-- the sheet s is that of the query text x, with what may follow it
pub record AcceptsAs (x s : List ℕ) : Type 0 where
  pub accepts : Accepts s
  pub text : accepts.text ≡ x

-- the first e bytes of the sheet s are both, and i is their index
pub record Both (x t s i : List ℕ) (e : ℕ) : Type 0 where
  pub lines : ℕ
  pub rows : ℕ
  pub is : reading Table t ≡ Accepted lines rows
  pub fits : e ≤ length s
  pub accepted : AcceptsAs x (take e s)
  pub frames : frames_in (take e s) ≡ frames_of x ++ sampled_from (frames_of t)
  pub given : Given (take e s) i

-- r is the table's refusal, or says how many bytes there are
pub record Gathers (x t s i : List ℕ) (r : Result ℕ Refusal) : Type 0 where
  pub refused : (f : Refusal) → r ≡ Err f → (f.text ≡ Table) × (reading Table t ≡ Refused f.number f.line)
  pub both : (e : ℕ) → r ≡ Ok e → Both x t s i e

-- ---- a query, with a table beside it or none

-- the query text x is accepted, where the table o is handed in beside it; s is its sheet, and i the index of that
pub record QueryRead (x : List ℕ) (o : Option (Bor (List ℕ))) (s i : List ℕ) : Type 0 where
  pub lines : ℕ
  pub atoms : ℕ
  pub is : query_reading (is_some o) x ≡ Accepted lines atoms
  pub sheet : Sheet x s
  pub indexed : Indexed s i
  pub few : length i ≤ rows_at

-- r is the query's refusal, or says how many bytes of the sheet s its frames are
pub record ReadsBeside (x : List ℕ) (o : Option (Bor (List ℕ))) (s i : List ℕ) (r : Result ℕ Refusal) : Type 0 where
  pub refused : (f : Refusal) → r ≡ Err f → (f.text ≡ Query) × (query_reading (is_some o) x ≡ Refused f.number f.line)
  pub read : (e : ℕ) → r ≡ Ok e → (e ≤ length s) × QueryRead x o (take e s) i
