-- `line_steps::stand::after_frame` meets its contract: the frame's tests, and one line more where it passes them.
use Rattle.line_steps.proofs.StepLaws.{frame_fails, frame_passes_lem}
use Rattle.line_steps.proofs.stand.after_frame.Goals as goal

pub returns-then-fault-ne0 : goal.returns-then-fault-ne0
returns-then-fault-ne0 c = search frame_fails

pub returns : goal.returns
returns c = search frame_passes_lem
