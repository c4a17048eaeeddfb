-- `row_frames::row::child_count` meets its contract.
use Rattle.row_frames.proofs.RowLaws.{count_none, count_some}
use native.Mathlib.Omega.{arith}
use Rattle.row_frames.proofs.row.child_count.Goals as goal

pub returns-then-byte_at-ne48 : goal.returns-then-byte_at-ne48
returns-then-byte_at-ne48 c = search (count_none, arith)

pub returns : goal.returns
returns c = search (count_some, arith)
