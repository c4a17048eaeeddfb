-- The shapes of the table's operators, a number for each: "operator with two shapes in the table, or position or literal unlike its rows".
use Rattle.std.specs.Prelude.{ℕ, ◌<◌, ◌≡◌, Bool, List, [], length, get_or, set, eqb, Result, Ok, Err}
use Rattle.hexadecimal.specs.Choose.{pick}
use Rattle.frames.specs.Sheet.{frames_in}
use Rattle.frame_tests.specs.Faults.{is_row}
use Rattle.join_tests.specs.Rows.{row_of, rows_in}
use Rattle.running.specs.Validation.{Verdict, Passed, Invalid, shapes_from}
use Rattle.join_tests.specs.Arrays.{shape_of, fits_shape, Shaped}
use Rattle.frame_tests.specs.Faults.{text_number}
use Rattle.first_reading.specs.declared.first.Refusal.{Refusal}

-- what the code answers, in document 01's numbers
abbrev pub verdict : Result (Unit {0}) Refusal → Verdict
verdict (Ok _) = Passed
verdict (Err f) = Invalid f.number (text_number f.text) f.line

-- the row of the frame f is like the first of its operator, by the shapes F
abbrev pub like_first : List ℕ → List ℕ → Bool
like_first F f = fits_shape (eqb (shape_of (row_of f))) (get_or F (get_or f 3 0) 0)

-- 11, where it is not; a frame 32 is no row
abbrev pub shape_fault : List ℕ → List ℕ → ℕ
shape_fault F f = pick (is_row (get_or f 0 0)) (pick (like_first F f) 0 11) 0

-- the shapes with that of the frame f
abbrev pub with_shape : List ℕ → List ℕ → List ℕ
with_shape F f = pick (is_row (get_or f 0 0)) (pick (like_first F f) (set F (get_or f 3 0) (shape_of (row_of f))) F) F

-- one frame's fault r, and the shapes G behind it
pub record RowNoted (f F : List ℕ) (r : ℕ) (G : List ℕ) : Type 0 where
  pub fault : r ≡ shape_fault F f
  pub shapes : G ≡ with_shape F f
  pub size : length G ≡ length F
  pub byte : get_or f 3 0 < 256

-- a whole sheet t: the verdict, and where it passes the shapes of all rows
pub record TableNoted (t : List ℕ) (r : Result (Unit {0}) Refusal) (F : List ℕ) : Type 0 where
  pub is : verdict r ≡ shapes_from [] 0 (frames_in t)
  pub shaped : r ≡ Ok tt → Shaped F (rows_in (frames_in t))
