-- A table on a part of a sheet, and in its place the frames that samples are taken from.
use Rattle.std.specs.Prelude.{ℕ, ◌+◌, ◌-◌, ◌≤◌, ◌≡◌, List, length, take, drop}
use Rattle.frames.specs.Limits.{items_most, rows_most}
use Rattle.frames.specs.Kinds.{table}
use Rattle.frames.specs.Sheet.{frames_in}
use Rattle.reading.specs.Index.{Indexed}
use Rattle.plans.specs.Atoms.{children}
use Rattle.plans.specs.Items.{Each}
use Rattle.plans.specs.Rows.{rows_in}
use Rattle.standing.specs.Stands.{RowsSheet}
use Rattle.behind.specs.Sampled.{sampled_from}
use Rattle.behind.specs.Behind.{FramesOf}

-- there is room for a copy of n bytes of b behind the first `at` of s
pub record CopyRoom (b : List ℕ) (n : ℕ) (s : List ℕ) (at : ℕ) : Type 0 where
  pub enough : n ≤ length b
  pub room : at + n ≤ length s

-- from a to b of the sheet s
abbrev pub part_of : List ℕ → ℕ → ℕ → List ℕ
part_of s a b = take (b - a) (drop a s)

-- an accepted table stands from a to b of the sheet s, and k is the index of its frames
pub record TableLaid (s : List ℕ) (a b : ℕ) (k : List ℕ) : Type 0 where
  pub from : a ≤ b
  pub fits : b ≤ length s
  pub sheet : RowsSheet (part_of s a b)
  pub of_table : FramesOf table (frames_in (part_of s a b))
  pub indexed : Indexed (part_of s a b) k

-- the sheet y has what samples are taken from, of a table with the frames fs
pub record SampledSheet (fs : List (List ℕ)) (y : List ℕ) : Type 0 where
  pub frames : frames_in y ≡ sampled_from fs
  pub of_table : FramesOf table (frames_in y)
  pub narrow : Each (λ r. length (children r) ≤ items_most) (rows_in (frames_in y))
  pub rows : length (rows_in (frames_in y)) ≤ rows_most
  pub size : length y ≤ 32768

-- it stands from a to e of the sheet s', where in s the table stood from a to b
pub record SampledLaid (s : List ℕ) (a b : ℕ) (s' : List ℕ) (e : ℕ) : Type 0 where
  pub kept : take a s' ≡ take a s
  pub from : a ≤ e
  pub fits : e ≤ length s'
  pub sampled : SampledSheet (frames_in (part_of s a b)) (part_of s' a e)
