-- `step_bytes::single::lone_step` meets its contract: by the kind.
use Rattle.step_bytes.proofs.SingleLaws.{is_eq, is_eq_global, is_pred}
use Rattle.step_bytes.proofs.single.lone_step.Goals as goal

pub returns-in-4 : goal.returns-in-4
returns-in-4 c = search is_eq

pub returns-in-5 : goal.returns-in-5
returns-in-5 c = search is_eq_global

pub returns-in_default : goal.returns-in_default
returns-in_default c = search is_pred
