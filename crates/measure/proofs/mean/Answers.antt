-- `mean` meets its contract: the invariant says that the elements left give, from the total on, the whole sum.
use native.Mathlib.Omega.{arith}
use mathlib.Core.Path.{refl}
use Rattle.measure.specs.Bootstrap.{mean}
use Rattle.measure.proofs.Laws.{in_float_lem, sum_next, sum_done}
use Rattle.measure.proofs.mean.Goals as goal

pub loop-x-init : goal.loop-x-init
loop-x-init c = record { within = omega arith; is = refl }

pub loop-x-preserved : goal.loop-x-preserved
loop-x-preserved c = sum_next _ _ _ _ _ c.loop-x.invariant c.loop-x-test.true refl

pub int_to_float-result : goal.int_to_float-result
int_to_float-result c = in_float_lem _ (omega arith)

pub returns : goal.returns
unfolding mean
returns c = rw (sum_done _ _ _ c.loop-x.invariant c.loop-x-test.false)
