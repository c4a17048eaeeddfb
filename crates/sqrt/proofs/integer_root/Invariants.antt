-- `sqrt::integer_root` meets its contract: `Turns` holds after each turn, and after 53 of them it is `IsRoot`. Assumes nothing.
use Rattle.sqrt.proofs.Digits.{Turns}
use Rattle.sqrt.proofs.integer_root.Given as goal

abbrev pub invariant-loop-turn : goal.invariant-loop-turn
invariant-loop-turn l = Turns l.m l.left l.whole l.rest l._turn
