-- `join_lookups::operands::count_bound` meets its contract: the operands left give the rest of the count.
use Rattle.join_lookups.proofs.LookupLaws.{Counting}
use Rattle.join_lookups.proofs.operands.count_bound.Given as goal

abbrev pub invariant-loop-k : goal.invariant-loop-k
invariant-loop-k l = Counting l.frame l.bound l.kind l.i l.w l.n l.count l.k
