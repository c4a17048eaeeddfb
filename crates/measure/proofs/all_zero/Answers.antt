-- `all_zero` meets its contract: the invariant says that the draws left decide.
use native.Mathlib.Omega.{arith}
use mathlib.Core.Path.{refl}
use Rattle.measure.proofs.Laws.{zeros_next, zeros_stop, zeros_done}
use Rattle.measure.proofs.all_zero.Goals as goal

pub loop-d-init : goal.loop-d-init
loop-d-init c = record { within = omega arith; is = refl }

pub loop-d-preserved : goal.loop-d-preserved
loop-d-preserved c = zeros_next _ _ c.loop-d.invariant c.loop-d-test.true c.if-d.false

pub returns-then-d : goal.returns-then-d
returns-then-d c = zeros_stop _ _ c.loop-d.invariant c.loop-d-test.true c.if-d.true

pub returns : goal.returns
returns c = search zeros_done
