-- The places of the rows, from the first one on. Assumes nothing.
use Prim.Native.Nat.{ℕ, suc, ◌+◌, ◌-◌, ◌<◌, ◌≤◌}
use mathlib.Core.Path.{◌≡◌, refl, sym, ◌∙◌, ap}
use mathlib.Core.Bool.{Bool, true, false, not}
use mathlib.Core.List.{List, [], ◌∷◌}
use native.Mathlib.Omega.{arith}
use native.Mathlib.Numerals.{add-one}
use lib.ListN.{length, get_or, take, drop, set, length-set, length-drop}
use lib.Seq.{drop-cons, get_or-set_same, get_or-set_other, take-set-le, take-take, ext_get_or}
use lib.Dec.{eqb}
use borrow.Author.Tests.{eqb-true, eqb-false, not-true, not-false}
use Rattle.hexadecimal.specs.Choose.{pick}
use Rattle.frame_tests.specs.Faults.{is_row}
use Rattle.frames.specs.Sheet.{frame_at}
use Rattle.frames.proofs.SheetLaws.{frames_end, frame_some, frame_within, frames_step}
use Rattle.row_frames.specs.Atoms.{Row}
use Rattle.row_frames.specs.Running.{no_row}
use Rattle.row_frames.specs.Rows.{row_of, rows_in}
use Rattle.buckets.specs.RowIndex.{rows_at, heads_at, place_at, rows_on}
use Rattle.row_indexing.specs.Filling.{rows_placed, FillRoom, Placed, TableIndexed, TableRoom}
use Rattle.row_indexing.proofs.FillLaws.{placed_length, placed_at}

-- n of the rows rs are placed, and the others stand from byte `at` on
pub record Placing (rs : List Row) (s I J : List ℕ) (at n : ℕ) : Type 0 where
  pub few : n ≤ length rs
  pub are : (j : ℕ) → j < n → row_of (frame_at s (place_at J j)) ≡ get_or rs j no_row
  pub left : rows_on (drop at s) ≡ drop n rs
  pub size : length J ≡ length I
  pub kept : take rows_at J ≡ take rows_at I
  pub blank : (k : ℕ) → heads_at ≤ k → get_or J k 0 ≡ get_or I k 0

module _ (s : List ℕ) (from : ℕ) (I : List ℕ) (room : TableRoom s from I) where
  abbrev rs : List Row
  rs = rows_on (drop from s)

  pub placing_first : Placing rs s I I from 0
  placing_first = record { few = omega arith; are = λ j h. absurd (omega arith); left = refl; size = refl; kept = refl; blank = λ k h. refl }

  module _ (J : List ℕ) (at n : ℕ) (p : Placing rs s I J at n) where
    pub placing_end : length s ≤ at → Placed rs s I J n
    unfolding rows_in
    placing_end h = record {
      are = ext_get_or no_row (rows_placed s J n) rs (placed_length s J n ∙ all) (λ j l. let g : j < n = omega (arith, placed_length s J n) in placed_at s J n j g ∙ p.are j g);
      size = p.size;
      kept = p.kept;
      blank = p.blank;
    }
      where
        all : n ≡ length rs
        all = let z : [] ≡ drop n rs = rw (frames_end s at h) at p.left in omega (arith, p.few, ap length z, length-drop n rs)

    module _ (h : at < length s) (f : List ℕ) (frame : f ≡ frame_at s at) where
      pub place_less : length s - (at + length f) < length s - at
      place_less = omega (arith, frame_some s at h f frame, frame_within s at h f frame)

      pub place_fits : at + length f < 65536
      place_fits = omega (arith, frame_within s at h f frame, room.small)

      module _ (kd : ℕ) (kind : kd ≡ get_or f 0 0) (b : Bool) (test : b ≡ is_row kd) where
        split : pick b (row_of f ∷ rows_on (drop (at + length f) s)) (rows_on (drop (at + length f) s)) ≡ drop n rs
        unfolding rows_in
        split = let t : is_row (get_or f 0 0) ≡ b = rw (← kind) (sym test) in rw (frames_step s at h f frame, t) at p.left

        pub placing_other : not b ≡ true → Placing rs s I J (at + length f) n
        placing_other g = record { few = p.few; are = p.are; left = rw (not-true b g) at split; size = p.size; kept = p.kept; blank = p.blank }

        module _ (g : not b ≡ false) where
          found : row_of f ∷ rows_on (drop (at + length f) s) ≡ drop n rs
          found = rw (not-false b g) at split

          more : n < length rs
          more = omega (arith, ap length found, length-drop n rs)

          ahead : row_of f ∷ rows_on (drop (at + length f) s) ≡ get_or rs n no_row ∷ drop (suc n) rs
          ahead = found ∙ drop-cons rs n no_row more

          pub place_room : rows_at + n < length J
          place_room = omega (arith, more, p.size, room.room.rows, room.room.size)

          pub place_few : n < 1024
          place_few = omega (arith, more, room.room.rows)

          pub placing_row : Placing rs s I (set J (rows_at + n) at) (at + length f) (n + 1)
          placing_row = record {
            few = omega (arith, more);
            are = λ j l. by j l (eqb j n) refl;
            left = rw (add-one n) (ap (λ (l : List Row). drop 1 l) ahead);
            size = length-set J (rows_at + n) at ∙ p.size;
            kept = take-set-le rows_at J (rows_at + n) at (omega arith) ∙ p.kept;
            blank = λ k l. get_or-set_other J (rows_at + n) k at 0 (λ q. omega (arith, place_few)) ∙ p.blank k l;
          }
            where
              by : (j : ℕ) → j < n + 1 → (z : Bool) → eqb j n ≡ z → row_of (frame_at s (place_at (set J (rows_at + n) at) j)) ≡ get_or rs j no_row
              by j l true q =
                  let e : j ≡ n = eqb-true j n q in
                  rw (e, get_or-set_same J (rows_at + n) at 0 place_room, ← frame) (ap (λ (l : List Row). get_or l 0 no_row) ahead)
              by j l false q =
                  let e = eqb-false j n q in
                  rw (get_or-set_other J (rows_at + n) (rows_at + j) at 0 (λ y. e (omega arith))) (p.are j (omega arith))

-- ---- first the places, then the entries

module _ (s : List ℕ) (from : ℕ) (I J : List ℕ) (n : ℕ) (room : TableRoom s from I) (p : Placed (rows_on (drop from s)) s I J n) where
  pub entries_room : FillRoom (rows_placed s J n) heads_at J
  entries_room = rw p.are (record { rows = room.room.rows; narrow = room.room.narrow; size = omega (arith, p.size, room.room.size); blank = λ k h. p.blank k h ∙ room.room.blank k (omega arith) })

  pub table_indexed : (K : List ℕ) → TableIndexed (rows_placed s J n) s heads_at J K → TableIndexed (rows_on (drop from s)) s rows_at I K
  table_indexed K x = record {
    rows = rw p.are at x.rows;
    size = x.size ∙ p.size;
    kept = sym (take-take rows_at heads_at K (omega arith)) ∙ ap (take rows_at) x.kept ∙ take-take rows_at heads_at J (omega arith) ∙ p.kept;
  }
