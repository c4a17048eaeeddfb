-- `arguments::decimal` meets its contract: the bytes left, behind the value so far, give what all give.
use Rattle.arguments.proofs.Laws.{Counting}
use Rattle.arguments.proofs.decimal.Given as goal

abbrev pub invariant-loop-b : goal.invariant-loop-b
invariant-loop-b l = Counting l.word l.value l.b-index
