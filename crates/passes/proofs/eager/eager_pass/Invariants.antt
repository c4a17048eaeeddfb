-- `passes::eager::eager_pass` meets its contract: the tries so far, composed, are a pass over the atoms so far.
use Rattle.passes.proofs.EagerLaws.{Passing}
use Rattle.passes.proofs.eager.eager_pass.Given as goal

abbrev pub invariant-loop-i : goal.invariant-loop-i
invariant-loop-i l = Passing l.sheet l.n l.initial.used l.initial.bound l.initial.order l.count l.used l.bound l.order l.c l.i
