-- `answer_lines::end_line` meets its contract: the line of its frame.
use mathlib.Core.Path.{◌∙◌}
use Rattle.answer_lines.proofs.Laws.{end_lined}
use Rattle.answer_lines.proofs.end_line.Goals as goal

pub returns : goal.returns
returns c = (rw (c.copy_from_slice.ensures.after, c.to_be_bytes.ensures, c.copy_from_slice-2.ensures.after, c.to_be_bytes-2.ensures) at c.put_line.ensures) ∙ end_lined _ _ _
