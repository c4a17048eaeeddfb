-- `resample` meets its contract: the invariant says that the draws to come give, from the state and the total now, what the whole resample gives.
use native.Mathlib.Omega.{arith}
use mathlib.Core.Path.{refl}
use Rattle.measure.proofs.Laws.{in_float_lem, resample_next, resample_done}
use Rattle.measure.proofs.resample.Goals as goal

pub loop-left-init : goal.loop-left-init
loop-left-init c = record { sum = refl; states = refl }

pub loop-left-preserved : goal.loop-left-preserved
loop-left-preserved c = resample_next _ _ _ _ _ _ _ c.loop-left.invariant c.loop-left-test.true c.splitmix64-drawn.ensures c.pick-total.ensures

pub int_to_float-result : goal.int_to_float-result
int_to_float-result c = in_float_lem _ (omega arith)

pub returns : goal.returns
returns c = resample_done _ _ _ _ _ c.loop-left.invariant c.loop-left-test.false
