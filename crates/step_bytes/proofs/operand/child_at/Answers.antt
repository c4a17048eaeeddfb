-- `step_bytes::operand::child_at` meets its contract: by whether the child is bound.
use Rattle.step_bytes.proofs.PieceLaws.{child_checked, child_extracted}
use Rattle.step_bytes.proofs.operand.child_at.Goals as goal

pub returns-then-pv_is_bound : goal.returns-then-pv_is_bound
returns-then-pv_is_bound c = search child_checked

pub returns-else-pv_is_bound : goal.returns-else-pv_is_bound
returns-else-pv_is_bound c = search child_extracted
