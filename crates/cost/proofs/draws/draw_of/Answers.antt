-- `cost::draws::draw_of` meets its contract.
use native.Mathlib.Omega.{arith}
use Rattle.measure.proofs.Laws.{in_float_lem}
use Rattle.cost.proofs.DrawLaws.{draw_is}
use Rattle.cost.proofs.draws.draw_of.Goals as goal

pub int_to_float-result : goal.int_to_float-result
int_to_float-result c = in_float_lem _ (omega (arith, c.probe_sum-sum.ensures.1, c.requires.n_bound.0))

pub int_to_float-result-2 : goal.int_to_float-result-2
int_to_float-result-2 c = in_float_lem _ (omega (arith, c.requires.n_bound.0))

pub returns : goal.returns
returns c = draw_is _ _ _ _ _ c.requires.n_bound.1 c.probe_sum-sum.ensures.0
