-- `step_tests::faults::op_of` meets its contract: by the mark.
use mathlib.Core.Path.{◌∙◌}
use Rattle.step_tests.proofs.RowLaws.{op_some}
use Rattle.step_tests.proofs.faults.op_of.Goals as goal

pub returns : goal.returns
returns c = c.from.ensures ∙ c.saturating_sub.ensures ∙ op_some _ _ _ c.mark_at.ensures
