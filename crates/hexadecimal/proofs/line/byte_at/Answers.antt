-- `hexadecimal::line::byte_at` meets its contract.
use Rattle.hexadecimal.proofs.Bytes.{bytes_past, byte_is}
use Rattle.hexadecimal.proofs.line.byte_at.Goals as goal

pub returns-then-line-i : goal.returns-then-line-i
returns-then-line-i c = search bytes_past

pub returns : goal.returns
returns c = search byte_is
