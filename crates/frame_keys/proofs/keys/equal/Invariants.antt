-- `frame_keys::keys::equal` meets its contract: what is left of both decides.
use Rattle.std.proofs.Common.{◌≡◌, length}
use lib.Dec.{eqb}
use Rattle.std.specs.Cmp.Lexicographic.{pointwise}
use Rattle.frame_keys.proofs.keys.equal.Given as goal

abbrev pub invariant-loop-x : goal.invariant-loop-x
invariant-loop-x l = pointwise eqb l.a l.b ≡ pointwise eqb l.left l.rest

abbrev pub decreases-loop-x : goal.decreases-loop-x
decreases-loop-x l = length l.left
