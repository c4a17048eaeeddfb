-- `variance` meets its contract: as `mean`, over the squares of the distances.
use native.Mathlib.Omega.{arith}
use mathlib.Core.Path.{refl}
use lib.ListN.{length-map}
use lib.Ieee.{nan}
use Rattle.measure.specs.Bootstrap.{variance, square_from}
use Rattle.measure.proofs.Laws.{in_float_lem, sum_map_next, sum_done}
use Rattle.measure.proofs.variance.Goals as goal

pub loop-m-init : goal.loop-m-init
loop-m-init c = record { within = omega arith; is = refl }

pub loop-m-preserved : goal.loop-m-preserved
loop-m-preserved c = sum_map_next (square_from c.mean-center.result) c.args.means.now nan _ _ c.loop-m.invariant c.loop-m-test.true

pub int_to_float-result : goal.int_to_float-result
int_to_float-result c = in_float_lem _ (omega arith)

pub returns : goal.returns
unfolding variance
returns c = rw (← c.mean-center.ensures, sum_done _ _ _ c.loop-m.invariant (rw length-map c.loop-m-test.false))
