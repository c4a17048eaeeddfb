-- `exports::rounds::rimdovek_round_costs` meets its contract.
use Rattle.exports.proofs.RoundLaws.{round_number, round_output}
use Rattle.exports.proofs.rounds.rimdovek_round_costs.Goals as goal

pub returns : goal.returns
returns c = record { answer = round_number _ _ _ _ _ _ c.table_if.result c.table_if.ensures c.round_costs.result c.round_costs.ensures _ c.packed.ensures; output = round_output _ _ _ _ _ _ c.table_if.result c.table_if.ensures c.round_costs.result c.round_costs.ensures }
