-- `passes::eager::lower_eager` meets its contract: the passes so far, composed; a pass that takes nothing is the last.
use Prim.Native.Nat.{◌+◌}
use Rattle.fields.specs.Choose.{pick}
use Rattle.lowering.specs.Scheduling.{unlowered, numbers}
use Rattle.passes.specs.Eager.{sheet_atoms}
use Rattle.passes.proofs.EagerLaws.{Repeating}
use Rattle.passes.proofs.eager.lower_eager.Given as goal

abbrev pub invariant-loop-more : goal.invariant-loop-more
invariant-loop-more l = Repeating l.sheet l.initial.used l.initial.bound l.initial.order l.count l.used l.bound l.order l.c l.more

abbrev pub decreases-loop-more : goal.decreases-loop-more
decreases-loop-more l = unlowered l.used (numbers (sheet_atoms l.sheet)) + pick l.more 1 0
