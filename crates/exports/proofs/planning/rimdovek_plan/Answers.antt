-- `exports::planning::rimdovek_plan` meets its contract.
use Rattle.exports.proofs.PlanLaws.{planned_number, planned_output}
use Rattle.exports.proofs.planning.rimdovek_plan.Goals as goal

pub returns : goal.returns
returns c = record { answer = planned_number _ _ _ _ _ c.table_if.result c.table_if.ensures c.plan.result c.plan.ensures _ c.packed.ensures; output = planned_output _ _ _ _ _ c.table_if.result c.table_if.ensures c.plan.result c.plan.ensures }
