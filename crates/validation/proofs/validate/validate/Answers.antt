-- `validation::validate::validate` meets its contract: the table's shapes refuse, or the steps decide.
use mathlib.Core.Path.{refl}
use Rattle.std.proofs.result.Match.{err_is}
use Rattle.validation.proofs.ValidateLaws.{shapes_refuse, plan_ready, steps_decide}
use Rattle.validation.proofs.validate.validate.Goals as goal

pub returns-in_err-shapes_fault : goal.returns-in_err-shapes_fault
returns-in_err-shapes_fault c = rw (err_is _ _ c.from_residual.ensures.1) (shapes_refuse _ _ _ _ c.in_err-shapes_fault.ensures _ _ refl)

pub steps_fault-requires : goal.steps_fault-requires
steps_fault-requires c = plan_ready _ _ _ _ c.in_ok-shapes_fault.ensures _ refl c.global_classes.ensures c.requires.plan_sheet

pub returns : goal.returns
returns c = steps_decide _ _ _ _ c.in_ok-shapes_fault.ensures _ refl c.global_classes.ensures _ c.steps_fault.ensures
