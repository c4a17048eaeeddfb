-- What is put stays within the plan's array.
use Rattle.std.proofs.Common.{◌≤◌, length}
use Rattle.longest.proofs.put_plan.Given as goal

abbrev pub invariant-loop : goal.invariant-loop
invariant-loop l = l.at ≤ length l.plan
