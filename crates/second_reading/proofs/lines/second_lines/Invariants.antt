-- `second_reading::lines::second_lines` meets its contract.
use Prim.Native.Nat.{◌-◌}
use lib.ListN.{length}
use Rattle.first_reading.specs.Reading.{Accepted}
use Rattle.second_reading.proofs.SecondLaws.{Rereading}
use Rattle.second_reading.proofs.lines.second_lines.Given as goal

abbrev pub invariant-loop-at : goal.invariant-loop-at
invariant-loop-at l = Rereading l.n l.sheet (Accepted l.lines.count l.lines.counted) l.initial.index l.initial.leaders l.index l.leaders l.at l.k l.m

abbrev pub decreases-loop-at : goal.decreases-loop-at
decreases-loop-at l = length l.sheet - l.at
