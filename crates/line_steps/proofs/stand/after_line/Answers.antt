-- `line_steps::stand::after_line` meets its contract: the frame that was laid, where there is one.
use Rattle.line_steps.proofs.StepLaws.{line_missing, line_there}
use Rattle.line_steps.proofs.stand.after_line.Goals as goal

pub returns-then-next-s : goal.returns-then-next-s
returns-then-next-s c = search line_missing

pub returns : goal.returns
returns c = search line_there
