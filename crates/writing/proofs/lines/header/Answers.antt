-- `writing::lines::header` meets its contract: its bytes are a whole frame.
use Rattle.writing.proofs.LineLaws.{header_fits, header_put}
use borrow.Author.Rules.{rules}
use Rattle.writing.proofs.lines.header.Goals as goal

pub put_line-requires : goal.put_line-requires
put_line-requires c = record { bytes_in_bounds = search header_fits; at_bound = search rules }

pub returns : goal.returns
returns c = search header_put
