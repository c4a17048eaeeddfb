-- `answer_lines::put_line` meets its contract. The loop's invariant: the digits of the first bytes stand. Assumes nothing.
use Rattle.answer_lines.proofs.Laws.{put_all}
use Rattle.answer_lines.proofs.put_line.Goals as goal

pub returns : goal.returns
returns c = search put_all
