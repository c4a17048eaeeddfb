-- `explain::steps::say_listed` meets its contract: the items in turn.
use Rattle.explain.proofs.Walks.{Listing}
use Rattle.explain.proofs.steps.say_listed.Given as goal

abbrev pub invariant-loop-k : goal.invariant-loop-k
invariant-loop-k l = Listing l.n l.k l.at
