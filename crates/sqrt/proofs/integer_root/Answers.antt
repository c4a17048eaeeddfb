-- `sqrt::integer_root` meets its contract: `Turns` holds after each turn, and after 53 of them it is `IsRoot`. Assumes nothing.
use native.Mathlib.Omega.{arith}
use Rattle.sqrt.proofs.Digits.{bounded, none, one, nought, all}
use Rattle.sqrt.proofs.integer_root.Goals as goal
use Rattle.sqrt.proofs.integer_root.Goals.{then-trial-brought, else-trial-brought}

pub loop-turn-init : goal.loop-turn-init
loop-turn-init c = search none

pub overflow_mul-brought : goal.overflow_mul-brought
overflow_mul-brought c = omega (arith, bounded)

pub overflow_add-brought : goal.overflow_add-brought
overflow_add-brought c = omega (arith, bounded)

pub overflow_mul-left : goal.overflow_mul-left
overflow_mul-left c = omega arith

pub overflow_mul-trial : goal.overflow_mul-trial
overflow_mul-trial c = omega (arith, bounded)

pub overflow_add-trial : goal.overflow_add-trial
overflow_add-trial c = omega (arith, bounded)

pub overflow_mul-whole : goal.overflow_mul-whole
overflow_mul-whole c = omega (arith, bounded)

pub overflow_add-whole : goal.overflow_add-whole
overflow_add-whole c = omega (arith, bounded)

pub overflow_mul-whole-else-trial-brought : goal.overflow_mul-whole-else-trial-brought
overflow_mul-whole-else-trial-brought c = omega (arith, bounded)

pub returns : goal.returns
returns c = search all

pub loop-turn-preserved : goal.loop-turn-preserved
loop-turn-preserved c =
    elim c.if-trial-brought.branch [
      | then-trial-brought w ↦ rw (w.whole-is, w.rest-is) (one _ _ _ _ _ c.loop-turn.invariant c.loop-turn-test.true w.if-trial-brought.true)
      | else-trial-brought w ↦ rw (w.whole-is, w.rest-is) (nought _ _ _ _ _ c.loop-turn.invariant c.loop-turn-test.true w.if-trial-brought.false)
    ]
