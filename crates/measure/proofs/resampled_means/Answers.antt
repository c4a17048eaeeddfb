-- `resampled_means` meets its contract: the invariant says that the means in their places, with those to come from the state now, are them all.
use native.Mathlib.Omega.{arith}
use mathlib.Core.Path.{refl}
use Rattle.measure.proofs.Laws.{fill_start, fill_next, fill_done}
use Rattle.measure.proofs.resampled_means.Goals as goal

pub loop-i-init : goal.loop-i-init
loop-i-init c = fill_start _ _ _ refl

pub loop-i-preserved : goal.loop-i-preserved
loop-i-preserved c = fill_next _ _ _ _ _ _ c.loop-i.invariant c.loop-i-test.true (omega arith) c.resample-resampled.ensures

pub returns : goal.returns
returns c = fill_done _ _ _ _ _ c.loop-i.invariant c.loop-i-test.false
