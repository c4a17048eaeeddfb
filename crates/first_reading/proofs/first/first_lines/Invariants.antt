-- One `Reader` is made before the first line, and held over every turn of the loop: what it holds follows from where the reading stands.
use Rattle.std.proofs.Common.{◌-◌, ◌≡◌}
use Rattle.first_reading.proofs.StandLaws.{Walked}
use Rattle.first_reading.proofs.first.first_lines.Given as goal

abbrev pub invariant-loop-s : goal.invariant-loop-s
invariant-loop-s l = record { same_text : l.r.text.now ≡ l.text; same_place : l.r.at ≡ l.s.at; walked : Walked l.t l.text l.initial.sheet l.sheet l.s }

abbrev pub decreases-loop-s : goal.decreases-loop-s
decreases-loop-s l = l.s.end - l.s.at
