-- `number` meets its contract: by where `decode_line` finds the end, and what `long_at` ensures of the bytes. Assumes nothing.
use Rattle.number_lines.proofs.Laws.{number_read}
use Rattle.number_lines.proofs.number.Goals as goal

pub returns : goal.returns
returns c = search number_read
