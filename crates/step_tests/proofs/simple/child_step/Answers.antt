-- `step_tests::simple::child_step` meets its contract: by the operand's tag.
use Rattle.step_tests.proofs.StepLaws.{is_child_local, is_child_global}
use Rattle.step_tests.proofs.simple.child_step.Goals as goal

pub returns-then-byte_at-eq0 : goal.returns-then-byte_at-eq0
returns-then-byte_at-eq0 c = search is_child_local

pub returns-else-byte_at-eq0 : goal.returns-else-byte_at-eq0
returns-else-byte_at-eq0 c = search is_child_global
