-- `hex_lines::reader::behind_line` meets its contract: the line laid by `decode_line`, and the place behind it.
use Rattle.hex_lines.proofs.DecodeLaws.{behind_fits, passes_line, passes_none}
use Rattle.hex_lines.proofs.reader.behind_line.Goals as goal

pub overflow_add-result : goal.overflow_add-result
overflow_add-result c = search behind_fits

pub returns-in-Some : goal.returns-in-Some
returns-in-Some c = search passes_line

pub returns-in-None : goal.returns-in-None
returns-in-None c = search passes_none
