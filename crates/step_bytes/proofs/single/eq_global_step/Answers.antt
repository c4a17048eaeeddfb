-- `step_bytes::single::eq_global_step` meets its contract: by whether the local is bound.
use Rattle.step_bytes.proofs.SingleLaws.{global_checked, global_bound}
use Rattle.step_bytes.proofs.single.eq_global_step.Goals as goal

pub returns-then-is_set : goal.returns-then-is_set
returns-then-is_set c = search global_checked

pub returns-else-is_set : goal.returns-else-is_set
returns-else-is_set c = search global_bound
