-- `cost::draws::measure_key` meets its contract.
use Rattle.cost.proofs.DrawLaws.{answered, measure_is}
use Rattle.cost.proofs.draws.measure_key.Goals as goal

pub asks_table-table-requires : goal.asks_table-table-requires
asks_table-table-requires c = c.requires.given.keyed

pub sample_draws-n-requires : goal.sample_draws-n-requires
sample_draws-n-requires c = record { k_bound = (c.requires.k_bound, c.requires.k_bound); answers = answered _ _ _ c.asks_table-table.ensures c.requires.given }

pub returns : goal.returns
returns c = measure_is _ _ _ _ c.args.x _ c.asks_table-table.ensures c.sample_draws-n.ensures _ c.estimate_first.ensures
