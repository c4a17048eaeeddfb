-- The places of all rows, and their entries, from the last row on. Assumes nothing.
use Prim.Native.Nat.{ℕ, suc, ◌+◌, ◌*◌, ◌-◌, ◌<◌, ◌≤◌}
use mathlib.Core.Path.{◌≡◌, refl, sym, ◌∙◌, ap, subst}
use mathlib.Core.List.{List, [], ◌∷◌}
use native.Mathlib.Omega.{arith}
use lib.ListN.{length, get_or, take, drop, length-drop, drop_of_length-le}
use lib.Seq.{drop-cons, get_or-take}
use Rattle.hexadecimal.specs.Choose.{pick}
use Rattle.fields.specs.Limits.{items_most, rows_most}
use Rattle.frames.specs.Sheet.{frame_at}
use Rattle.row_frames.specs.Atoms.{Row, children}
use Rattle.row_frames.specs.Running.{no_row}
use Rattle.row_frames.proofs.TabulateLaws.{tabulate_at, tabulate_length}
use Rattle.row_frames.specs.Rows.{row_of}
use Rattle.row_frames.proofs.RowLaws.{row_count}
use Rattle.buckets.specs.Buckets.{numbers_from}
use Rattle.buckets.specs.RowIndex.{rows_at, heads_at, row_slots, entries_at, place_at, head_at, chain_at, in_slot}
use Rattle.buckets.proofs.NumberLaws.{each_map, each_at, numbers_range}
use Rattle.buckets.proofs.IndexLaws.{chain_none}
use Rattle.row_indexing.specs.Filling.{Entries, RowRoom, RowEntered, rows_placed, FillRoom, TableIndexed}
use Rattle.row_indexing.proofs.SlotLaws.{entries_are}

-- the rows that are placed, one by one
module _ (s i : List ℕ) (n : ℕ) where
  pub placed_length : length (rows_placed s i n) ≡ n
  unfolding rows_placed
  placed_length = tabulate_length n (λ j. row_of (frame_at s (place_at i j)))

  pub placed_at : (j : ℕ) → j < n → get_or (rows_placed s i n) j no_row ≡ row_of (frame_at s (place_at i j))
  unfolding rows_placed
  placed_at j h = tabulate_at n (λ j. row_of (frame_at s (place_at i j))) j no_row h

-- ---- the entries, from the last row on

pub record RowsEntered (rs : List Row) (I J : List ℕ) (j m : ℕ) : Type 0 where
  pub low : j ≤ length rs
  pub entries : Entries J m (λ t. numbers_from (in_slot t) j (drop j rs))
  pub few : m + (1 + items_most) * j ≤ (1 + items_most) * length rs
  pub size : length J ≡ length I
  pub kept : take heads_at J ≡ take heads_at I

module _ (s I : List ℕ) (n : ℕ) (room : FillRoom (rows_placed s I n) heads_at I) where
  abbrev rs : List Row
  rs = rows_placed s I n

  pub filling_first : RowsEntered rs I I n 0
  unfolding numbers_from
  filling_first = record {
    low = omega (arith, placed_length s I n);
    entries = record {
      falling = λ e h. rw (room.blank (entries_at + 2 * e + 1) (omega arith)) h;
      heads = λ t h. rw (room.blank (heads_at + t) (omega arith)) (omega arith);
      are = λ t h. chain_none I (head_at I t) (room.blank (heads_at + t) (omega arith)) ∙ sym (none t);
    };
    few = omega (arith, placed_length s I n);
    size = refl;
    kept = refl;
  }
    where
      none : (t : ℕ) → numbers_from (in_slot t) n (drop n rs) ≡ []
      none t = let l : length rs ≤ n = omega (arith, placed_length s I n) in rw (drop_of_length-le rs l)

  module _ (J : List ℕ) (j m : ℕ) (v : RowsEntered rs I J j m) where
    -- the places are as they were
    place_kept : (k : ℕ) → k < rows_most → place_at J k ≡ place_at I k
    place_kept k h =
        sym (get_or-take heads_at J (rows_at + k) 0 (omega arith))
        ∙ ap (λ (l : List ℕ). get_or l (rows_at + k) 0) v.kept
        ∙ get_or-take heads_at I (rows_at + k) 0 (omega arith)

    frame_kept : (k : ℕ) → k < length rs → row_of (frame_at s (place_at J k)) ≡ get_or rs k no_row
    frame_kept k h = rw (place_kept k (omega (arith, room.rows))) (sym (placed_at s I n k (omega (arith, placed_length s I n))))

    pub filling_end : j ≤ 0 → TableIndexed rs s heads_at I J
    filling_end h =
        let z : j ≡ 0 = omega arith in
        record {
          rows = record { few = room.rows; frames = frame_kept; falling = v.entries.falling; chains = λ t l. rw z at (v.entries.are t l) };
          size = v.size;
          kept = v.kept;
        }

    module _ (h : 0 < j) where
      pub fill_place : rows_at + (j - 1) < length J
      fill_place = omega (arith, v.low, room.rows, room.size, v.size)

      pub fill_fits : j - 1 < 65536
      fill_fits = omega (arith, v.low, room.rows)

      module _ (a : ℕ) (place : a ≡ get_or J (rows_at + (j - 1)) 0) (f : List ℕ) (frame : f ≡ frame_at s a) where
        row : row_of f ≡ get_or rs (j - 1) no_row
        row = rw (frame, place) (frame_kept (j - 1) (omega (arith, v.low)))

        pub fill_room : RowRoom f J (j - 1) m
        fill_room = record {
          entries = record { falling = v.entries.falling; heads = v.entries.heads; are = λ t l. refl };
          above = λ t l. rw (v.entries.are t l) (each_map {P = λ k. (j ≤ k) × (k < length rs)} (numbers_from (in_slot t) j (drop j rs)) (λ k q. omega (arith, q.0)) (numbers_range (in_slot t) j (length rs) (drop j rs) (omega (arith, length-drop j rs, v.low))));
          narrow = omega (arith, row_count f, ap (λ (r : Row). length (children r)) row, each_at (λ r. length (children r) ≤ items_most) rs (j - 1) no_row room.narrow (omega (arith, v.low)));
          room = record { room = omega (arith, v.few, v.low, v.size, room.rows, room.size); small = omega (arith, v.few, v.low, room.rows) };
        }

        -- one more row, at its front
        ahead : (t : ℕ) → t < row_slots → pick (in_slot t (row_of f)) ((j - 1) ∷ chain_at J t) (chain_at J t) ≡ numbers_from (in_slot t) (j - 1) (drop (j - 1) rs)
        unfolding numbers_from
        ahead t l =
            let z : suc (j - 1) ≡ j = omega arith in
            let g : j - 1 < length rs = omega (arith, v.low) in
            let d : drop (j - 1) rs ≡ get_or rs (j - 1) no_row ∷ drop j rs = subst (λ (k : ℕ). drop (j - 1) rs ≡ get_or rs (j - 1) no_row ∷ drop k rs) z (drop-cons rs (j - 1) no_row g) in
            rw (v.entries.are t l, row, d, z)

        pub filling_next : (K : List ℕ) (m' : ℕ) → RowEntered f J (j - 1) m K m' → RowsEntered rs I K (j - 1) m'
        filling_next K m' e = record {
          low = omega (arith, v.low);
          entries = entries_are K m' _ _ ahead e.entries;
          few = omega (arith, v.few, e.few);
          size = e.size ∙ v.size;
          kept = e.kept ∙ v.kept;
        }
