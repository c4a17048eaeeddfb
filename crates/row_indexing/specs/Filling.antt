-- The index of a table's rows, made: the places from the first row on, then the entries from the last row on, so that each chain ascends.
use Rattle.std.specs.Prelude.{ℕ, ◌+◌, ◌*◌, ◌<◌, ◌≤◌, ◌≡◌, Bool, false, List, [], ◌∷◌, length, get_or, take, drop, set, eqb}
use Rattle.hexadecimal.specs.Choose.{pick}
use Rattle.fields.specs.Limits.{items_most, rows_most}
use Rattle.frames.specs.Sheet.{frame_at}
use Rattle.row_frames.specs.Atoms.{Row, children}
use Rattle.row_frames.specs.Tabulate.{tabulate}
use Rattle.row_frames.specs.Items.{Each}
use Rattle.row_frames.specs.Rows.{row_of}
use Rattle.row_frames.specs.Wanted.{count_of}
use Rattle.buckets.specs.RowIndex.{rows_at, heads_at, row_slots, entries_at, table_index, place_at, head_at, row_at, next_at, chain_at, in_slot, RowsIndexed, rows_on}

-- ---- one entry

-- entry e is one of row j; there is no entry 0
abbrev pub is_of : List ℕ → ℕ → ℕ → Bool
is_of i e j = pick (eqb e 0) false (eqb (row_at i e) j)

-- entry e, of row j, is the first of the slot t
abbrev pub entered : List ℕ → ℕ → ℕ → ℕ → List ℕ
entered i t j e = set (set (set i (entries_at + 2 * e) j) (entries_at + 2 * e + 1) (head_at i t)) (heads_at + t) e

-- row j is entered behind m entries, unless the first of the slot is its own; how many entries there are then
abbrev pub entered_once : List ℕ → ℕ → ℕ → ℕ → List ℕ
entered_once i t j m = pick (is_of i (head_at i t) j) i (entered i t j (m + 1))

abbrev pub entries_then : List ℕ → ℕ → ℕ → ℕ → ℕ
entries_then i t j m = pick (is_of i (head_at i t) j) m (m + 1)

-- there is room for entry e
pub record EntryRoom (i : List ℕ) (e : ℕ) : Type 0 where
  pub room : entries_at + 2 * e + 1 < length i
  pub small : e < 65536

-- ---- the entries of one row

-- m entries in chains
pub record Entries (i : List ℕ) (m : ℕ) (chains : ℕ → List ℕ) : Type 0 where
  pub falling : (e : ℕ) → 0 < e → next_at i e < e
  pub heads : (t : ℕ) → t < row_slots → head_at i t ≤ m
  pub are : (t : ℕ) → t < row_slots → chain_at i t ≡ chains t

-- row j, of the frame f, comes before every row that is entered
pub record RowRoom (f i : List ℕ) (j m : ℕ) : Type 0 where
  pub entries : Entries i m (chain_at i)
  pub above : (t : ℕ) → t < row_slots → Each (λ n. j < n) (chain_at i t)
  pub narrow : count_of f ≤ items_most
  pub room : EntryRoom i (m + (1 + items_most))

-- it is the first of each of its slots; the rest of the array is as it was
pub record RowEntered (f i : List ℕ) (j m : ℕ) (i' : List ℕ) (m' : ℕ) : Type 0 where
  pub entries : Entries i' m' (λ t. pick (in_slot t (row_of f)) (j ∷ chain_at i t) (chain_at i t))
  pub few : m' ≤ m + (1 + items_most)
  pub size : length i' ≡ length i
  pub kept : take heads_at i' ≡ take heads_at i

-- ---- all rows

-- the rows of the first n places
unfoldable pub rows_placed : List ℕ → List ℕ → ℕ → List Row
rows_placed s i n = tabulate n (λ j. row_of (frame_at s (place_at i j)))

-- there is room for the rows rs, from the number `at` on
pub record FillRoom (rs : List Row) (at : ℕ) (i : List ℕ) : Type 0 where
  pub rows : length rs ≤ rows_most
  pub narrow : Each (λ r. length (children r) ≤ items_most) rs
  pub size : table_index ≤ length i
  pub blank : (k : ℕ) → at ≤ k → get_or i k 0 ≡ 0

-- the places of the rows rs
pub record Placed (rs : List Row) (s i i' : List ℕ) (n : ℕ) : Type 0 where
  pub are : rows_placed s i' n ≡ rs
  pub size : length i' ≡ length i
  pub kept : take rows_at i' ≡ take rows_at i
  pub blank : (k : ℕ) → heads_at ≤ k → get_or i' k 0 ≡ get_or i k 0

-- they are indexed; the numbers before them are as they were
pub record TableIndexed (rs : List Row) (s : List ℕ) (at : ℕ) (i i' : List ℕ) : Type 0 where
  pub rows : RowsIndexed rs s i'
  pub size : length i' ≡ length i
  pub kept : take at i' ≡ take at i

-- room for the rows of the sheet s from byte `from` on
pub record TableRoom (s : List ℕ) (from : ℕ) (i : List ℕ) : Type 0 where
  pub small : length s < 65536
  pub room : FillRoom (rows_on (drop from s)) rows_at i
