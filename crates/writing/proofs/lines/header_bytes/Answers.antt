-- `writing::lines::header_bytes` meets its contract: byte by byte.
use Rattle.writing.proofs.LineLaws.{header_is}
use Rattle.writing.proofs.lines.header_bytes.Goals as goal

pub returns : goal.returns
returns c = search header_is
