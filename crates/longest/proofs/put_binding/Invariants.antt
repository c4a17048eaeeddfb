-- What is put stays within the plan's array.
use Rattle.std.proofs.Common.{◌≤◌, length}
use Rattle.longest.proofs.put_binding.Given as goal

abbrev pub invariant-loop-v : goal.invariant-loop-v
invariant-loop-v l = l.at ≤ length l.plan
