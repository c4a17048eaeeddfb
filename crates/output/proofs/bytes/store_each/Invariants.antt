use Rattle.output.proofs.PutLaws.{Putting}
use Rattle.output.proofs.bytes.store_each.Given as goal

abbrev pub invariant-loop-b : goal.invariant-loop-b
invariant-loop-b l = Putting l.bytes l.initial.out l.at l.out l.to l.b-index
