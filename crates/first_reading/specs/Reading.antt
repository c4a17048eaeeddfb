-- What a reading of a text finds, and what the code answers by it.
use Rattle.std.specs.Prelude.{ℕ, Result, Ok, Err}
use Rattle.first_reading.specs.declared.first.Lines.{Lines}
use Rattle.first_reading.specs.declared.first.Fault.{Fault}

-- "Each line is tested 1 to 4 in turn": the text is accepted, or refused at the first test that a line fails
pub data Reading : Type 0 where
  -- how many lines there are, and how many of them are atoms or rows
  Accepted : ℕ → ℕ → Reading
  -- number and line
  Refused : ℕ → ℕ → Reading

abbrev pub as_reading : Result Lines Fault → Reading
as_reading (Ok l) = Accepted l.count l.counted
as_reading (Err f) = Refused f.number f.line
