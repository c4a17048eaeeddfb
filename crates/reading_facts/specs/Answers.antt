-- "A refusal returns number, text (query, plan, table) and line from 1": a reading's answer in the document's terms. Assumes nothing.
use Rattle.std.specs.Prelude.{ℕ}
use Rattle.reading.specs.Text.{Text}
use Rattle.reading.specs.Reading.{Reading}
use Rattle.reading.specs.Reading.{Accepted, Refused}

-- ---- number, text and line of an answer about the text t; an accepted text has number 0

abbrev pub number_of : Text → Reading → ℕ
number_of t (Accepted n c) = 0
number_of t (Refused k l) = k

abbrev pub text_of : Text → Reading → Text
text_of t a = t

abbrev pub line_of : Text → Reading → ℕ
line_of t (Accepted n c) = 0
line_of t (Refused k l) = l
