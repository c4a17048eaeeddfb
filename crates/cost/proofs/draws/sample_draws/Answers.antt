-- `cost::draws::sample_draws` meets its contract.
use Rattle.cost.proofs.DrawLaws.{emitter_drawn}
use Rattle.cost.proofs.draws.sample_draws.Goals as goal

pub returns : goal.returns
returns c = emitter_drawn _ _ c.args.x _ _ _ _ _ _ c.operator_for-op.ensures c.driver_sample-n.ensures c.fill_draws.ensures
