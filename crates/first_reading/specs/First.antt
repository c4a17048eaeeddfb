-- "Each line is tested 1 to 4 in turn; after the last line comes a plan's step count": the first reading of a query, a plan or a table.
use Rattle.std.specs.Prelude.{ℕ, zero, suc, ◌+◌, ◌-◌, ◌*◌, ◌/◌, ◌≤◌, ◌≡◌, List, [], ◌∷◌, map, Bool, length, get_or, take, ltb, eqb}
use Rattle.hex_lines.specs.Choose.{pick}
use Rattle.hex_lines.specs.Digits.{bytes_of, short_at}
use Rattle.hex_lines.specs.Lines.{split, is_hex, end_of}
use Rattle.line_steps.specs.Limits.{text_most}
use Rattle.line_steps.specs.Sheet.{frame_at, frames_in, Whole}
use Rattle.line_steps.specs.Text.{Text}
use Rattle.line_steps.specs.Text.TheVariants.{Query, Plan, Table}
use Rattle.line_steps.specs.Faults.{counted, frame_fault}
use Rattle.first_reading.specs.Reading.{Reading}
use Rattle.first_reading.specs.Reading.{Accepted, Refused}

-- ---- the frames of a text: its lines, as bytes
unfoldable pub frames_of : List ℕ → List (List ℕ)
frames_of t = map bytes_of (split t).ended

-- ---- one line: the number of the first test that it fails, 0 where it passes
unfoldable pub line_fault : Text → Bool → ℕ → List ℕ → ℕ
unfolding frame_fault
line_fault t first c l = pick (is_hex l) (frame_fault t first c (bytes_of l)) 1

-- ---- the lines in turn: n are passed, c of them counted; "last 0a missing" is 1 at the last line

abbrev pub at_end : ℕ → ℕ → List ℕ → Reading
at_end n c [] = Accepted n c
at_end n c (b ∷ r) = Refused 1 (suc n)

-- a fault of the line after n stops the reading
abbrev pub or_else : ℕ → ℕ → Reading → Reading
or_else zero n a = a
or_else (suc k) n a = Refused (suc k) (suc n)

unfoldable pub first_lines : Text → ℕ → ℕ → List (List ℕ) → List ℕ → Reading
unfolding line_fault
first_lines t n c [] r = at_end n c r
first_lines t n c (l ∷ ls) r =
    or_else (line_fault t (eqb n 0) c l) n (first_lines t (suc n) (counted t c (get_or (bytes_of l) 0 0)) ls r)

abbrev pub first_from : Text → ℕ → ℕ → List ℕ → Reading
first_from t n c x = first_lines t n c (split x).ended (split x).rest

-- ---- 3: "plan's step count wrong (line 1)"

-- a text's first line, and the steps that it gives as a plan's header, at its bytes 4 and 5: they are the lines after it
abbrev pub first_line : List ℕ → List ℕ
first_line x = take (end_of 0 x) x

abbrev pub steps_say : List ℕ → ℕ
steps_say x = short_at (bytes_of (first_line x)) 4

abbrev pub steps_right : Text → List ℕ → Reading → Reading
steps_right Query x a = a
steps_right Table x a = a
steps_right Plan x (Accepted n c) = pick (eqb (steps_say x + 1) n) (Accepted n c) (Refused 3 1)
steps_right Plan x (Refused k l) = Refused k l

-- ---- the whole: "A text's length is tested first"; "line 0 for an empty query or plan (2), a text too long (4)"; "Table (may be empty)"

abbrev pub empty_text : Text → Reading
empty_text Query = Refused 2 0
empty_text Plan = Refused 2 0
empty_text Table = Accepted 0 0

unfoldable pub first_reading : Text → List ℕ → Reading
unfolding first_lines
first_reading t x =
    pick (ltb text_most (length x)) (Refused 4 0)
    (pick (eqb (length x) 0) (empty_text t)
    (steps_right t x (first_from t 0 0 x)))

-- ---- the sheet of an accepted text

-- how many bytes the frames of n lines have, that are m bytes of text
abbrev pub sheet_size : ℕ → ℕ → ℕ
sheet_size m n = (m - n) / 2

-- the lent sheet s has room for the text x, where that is not too long
pub record SheetRoom (x s : List ℕ) : Type 0 where
  pub room : length x ≤ text_most → length x / 2 ≤ length s

-- s is the sheet of the text x
pub record Sheet (x s : List ℕ) : Type 0 where
  pub frames : frames_in s ≡ frames_of x
  pub whole : Whole (frames_in s)
  pub header : frame_at s 0 ≡ bytes_of (first_line x)
  pub size : 2 * length s ≤ length x
  pub most : length x ≤ text_most

-- a reading of the text x says r, and where that is acceptance, the sheet, s before, begins with that of x
pub record Lays (x s s' : List ℕ) (r : Reading) : Type 0 where
  pub same : length s' ≡ length s
  pub sheet : (n c : ℕ) → r ≡ Accepted n c → Sheet x (take (sheet_size (length x) n) s')
  pub fits : (n c : ℕ) → r ≡ Accepted n c → sheet_size (length x) n ≤ length s

-- of the lines in turn, and of the whole first reading
pub record LinesLaid (t : Text) (x s s' : List ℕ) (r : Reading) : Type 0 where
  pub is : r ≡ first_from t 0 0 x
  pub lays : Lays x s s' r

pub record FirstLaid (t : Text) (x s s' : List ℕ) (r : Reading) : Type 0 where
  pub is : r ≡ first_reading t x
  pub lays : Lays x s s' r
