-- Where the first reading stands between two lines, and how a line moves it on or ends it.
use Rattle.std.specs.Prelude.{ℕ, ◌+◌, ◌-◌, ◌/◌, ◌<◌, ◌≤◌, List, length, get_or, take, drop, eqb}
use Rattle.frame_tests.specs.Choose.{pick}
use Rattle.frame_tests.specs.Faults.{counted, frame_fault}
use Rattle.frame_tests.specs.declared.tests.Text.{Text}
use Rattle.line_steps.specs.declared.stand.Stand.{Stand}

-- before the first line of m bytes
abbrev pub at_start : ℕ → Stand
at_start m = record { at = 0; to = 0; n = 0; c = 0; end = m; fault = 0 }

-- the line up to p fails the test k: the reading ends there
abbrev pub ended_at : Stand → ℕ → ℕ → Stand
ended_at s p k = record { at = p; to = s.to; n = s.n; c = s.c; end = p; fault = k }

-- the line up to p passes, and its frame is f
abbrev pub passed_to : Text → List ℕ → Stand → ℕ → Stand
passed_to t f s p = record { at = p; to = s.to + length f; n = s.n + 1; c = counted t s.c (get_or f 0 0); end = s.end; fault = 0 }

-- its tests say k
abbrev pub by_fault : ℕ → Text → List ℕ → Stand → ℕ → Stand
by_fault k t f s p = pick (eqb k 0) (passed_to t f s p) (ended_at s p k)

abbrev pub after_frame : Text → List ℕ → Stand → ℕ → Stand
after_frame t f s p = by_fault (frame_fault t (eqb s.n 0) s.c f) t f s p

-- the line up to p was laid on the sheet y; a line that is none of digits leaves p where the reading stands
abbrev pub after_line : Text → List ℕ → Stand → ℕ → Stand
after_line t y s p = pick (eqb p s.at) (ended_at s p 1) (after_frame t (take ((p - s.at) / 2) (drop s.to y)) s p)

-- the counters are those of a text that is not too long, a frame of m bytes being the next
pub record Few (s : Stand) (m : ℕ) : Type 0 where
  pub lines : s.n ≤ 65536
  pub counted : s.c < 65536
  pub places : s.to + m ≤ 65536

-- and the frame of the line up to p stands on the sheet y
pub record LineRoom (s : Stand) (y : List ℕ) (p : ℕ) : Type 0 where
  pub from : s.at ≤ p
  pub within : s.to + (p - s.at) / 2 ≤ length y
  pub few : Few s ((p - s.at) / 2)
