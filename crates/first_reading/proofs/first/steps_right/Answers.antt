-- `first_reading::first::steps_right` meets its contract.
use mathlib.Core.Path.{refl}
use Rattle.first_reading.proofs.FirstLaws.{steps_agree, steps_differ}
use Rattle.first_reading.proofs.first.steps_right.Goals as goal

pub returns-then-steps_say-lines : goal.returns-then-steps_say-lines
returns-then-steps_say-lines c = steps_agree _ _ _ _ c.in-Plan.is _ _ refl c.requires _ c.sheet_size-size.ensures _ _ c.frame_at.ensures c.steps_say.ensures.0 c.if-steps_say-lines.true

pub returns-else-steps_say-lines : goal.returns-else-steps_say-lines
returns-else-steps_say-lines c = steps_differ _ _ _ _ c.in-Plan.is _ _ refl c.requires _ c.sheet_size-size.ensures _ _ c.frame_at.ensures c.steps_say.ensures.0 c.if-steps_say-lines.false
