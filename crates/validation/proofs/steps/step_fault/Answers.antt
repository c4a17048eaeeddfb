-- `validation::steps::step_fault` meets its contract: a Join, or another step.
use Rattle.validation.proofs.JoinLaws.{join_frame, simple_frame}
use Rattle.validation.proofs.steps.step_fault.Goals as goal

pub returns-then-byte_at-eq64 : goal.returns-then-byte_at-eq64
returns-then-byte_at-eq64 c = search join_frame

pub returns-else-byte_at-eq64 : goal.returns-else-byte_at-eq64
returns-else-byte_at-eq64 c = search simple_frame
