-- The rows that stand, laid on a sheet of their own.
use Rattle.std.specs.Prelude.{ℕ, ◌+◌, ◌-◌, ◌*◌, ◌≤◌, ◌≡◌, Bool, List, map, length, get_or, take, drop}
use Rattle.hexadecimal.specs.Choose.{pick}
use Rattle.fields.specs.Limits.{items_most, rows_most}
use Rattle.frames.specs.Frames.{kind_of}
use Rattle.frames.specs.Sheet.{frames_in, Whole}
use Rattle.indexing.specs.Index.{many_slots, slots_for, Falling, given_by, noted, Noting}
use Rattle.records.specs.Items.{Each}
use Rattle.records.specs.Leaders.{standing, standing_below}
use Rattle.records.specs.Rows.{rows_in, row_frame}
use Rattle.standing.specs.declared.lay.Stood.{Stood}

-- ---- one row: laid from e to b on the sheet o

abbrev pub part_of : List ℕ → ℕ → ℕ → List ℕ
part_of o e b = take (b - e) (drop e o)

-- what the turn of a row needs, with m rows before it in the index t
pub record TurnRoom (o : List ℕ) (e b : ℕ) (t : List ℕ) (m : ℕ) : Type 0 where
  pub from : e ≤ b
  pub to : b ≤ length o
  pub key : 255 ≡ (kind_of (part_of o e b)).key
  pub falling : Falling (slots_for (length t)) t
  pub noting : Noting (slots_for (length t)) t e m

-- whether one of those before it is equal: if none is it is entered
pub record Turned (o : List ℕ) (e b : ℕ) (t : List ℕ) (m : ℕ) (t' : List ℕ) (r : Bool) : Type 0 where
  pub passed : r ≡ given_by (slots_for (length t)) (take e o) t (part_of o e b)
  pub entered : t' ≡ pick r t (noted (slots_for (length t)) t (part_of o e b) e m)

-- ---- all rows

-- "at most 16" children, where it is a frame 30
abbrev pub Narrow : List ℕ → Type 0
Narrow f = get_or f 0 0 ≡ 0x30 → get_or f 4 0 ≤ items_most

-- what is known of the sheet s of an accepted table
pub record RowsSheet (s : List ℕ) : Type 0 where
  pub whole : Whole (frames_in s)
  pub narrow : Each Narrow (frames_in s)
  pub size : length s ≤ 32768
  pub rows : length (rows_in (frames_in s)) ≤ rows_most

-- the sheet s of a table, a sheet o for the rows that stand, and a blank index t for them
pub record StandingRoom (s o t : List ℕ) : Type 0 where
  pub sheet : RowsSheet s
  pub fits : length s ≤ length o
  pub blank : (e : ℕ) → get_or t e 0 ≡ 0
  pub room : many_slots + 2 * (rows_most + 2) ≤ length t

-- the first bytes of o are the frames of the rows that stand; so many of those of the numbers below `new`
pub record Stands (s : List ℕ) (new : ℕ) (o : List ℕ) (r : Stood) : Type 0 where
  pub within : r.bytes ≤ length s
  pub is : frames_in (take r.bytes o) ≡ map row_frame (standing (frames_in s))
  pub whole : Whole (frames_in (take r.bytes o))
  pub old : r.old ≡ standing_below new (frames_in s)
