-- What the parts of the planner rely on: the sheet of an accepted query text, and behind it that of a table where frame 24 asks for one.
use Rattle.std.specs.Prelude.{ℕ, ◌<◌, ◌≡◌, List, ◌++◌, length}
use Rattle.query.specs.Digits.{bytes_of}
use Rattle.query.specs.Kinds.{table}
use Rattle.query.specs.Sheet.{frame_at, frames_in}
use Rattle.query.specs.First.{frames_of, first_line}
use Rattle.query.specs.Text.TheVariants.{Query}
use Rattle.query.specs.Reading.{Accepted}
use Rattle.query.specs.Second.{reading}
use Rattle.behind.specs.Behind.{FramesOf}

-- s begins with the sheet of an accepted query text; what follows are frames of a table
pub record Accepts (s : List ℕ) : Type 0 where
  pub text : List ℕ
  pub lines : ℕ
  pub atoms : ℕ
  pub is : reading Query text ≡ Accepted lines atoms
  pub behind : List (List ℕ)
  pub frames : frames_in s ≡ frames_of text ++ behind
  pub of_table : FramesOf table behind
  pub header : frame_at s 0 ≡ bytes_of (first_line text)
  pub size : length s < 65536
