-- `scheduling::schedule::schedule` meets its contract: the rounds left give what all give.
use Rattle.scheduling.proofs.LoopLaws.{Rounding}
use Rattle.scheduling.proofs.schedule.schedule.Given as goal

abbrev pub invariant-loop-b : goal.invariant-loop-b
invariant-loop-b l = Rounding l.sheet l.initial.s.how l.initial.keys l.initial.values l.initial.costs l.last l.d l.keys l.values l.costs l.s l.left

abbrev pub decreases-loop-b : goal.decreases-loop-b
decreases-loop-b l = l.left
