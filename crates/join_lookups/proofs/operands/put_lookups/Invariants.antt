-- `join_lookups::operands::put_lookups` meets its contract: the operands left give what all give.
use Rattle.join_lookups.proofs.LookupLaws.{Looking}
use Rattle.join_lookups.proofs.operands.put_lookups.Given as goal

abbrev pub invariant-loop-k : goal.invariant-loop-k
invariant-loop-k l = Looking l.frame l.bound l.initial.out l.from l.kind l.i l.w l.n l.out l.at l.k
