-- `standing::lay::lay_standing` meets its contract.
use Prim.Native.Nat.{◌-◌}
use lib.ListN.{length}
use Rattle.standing.proofs.LayLaws.{Laying}
use Rattle.standing.proofs.lay.lay_standing.Given as goal

abbrev pub invariant-loop-at : goal.invariant-loop-at
invariant-loop-at l = Laying l.sheet l.new l.initial.out l.initial.seen l.out l.seen l.at l.n l.bytes l.m l.old

abbrev pub decreases-loop-at : goal.decreases-loop-at
decreases-loop-at l = length l.sheet - l.at
