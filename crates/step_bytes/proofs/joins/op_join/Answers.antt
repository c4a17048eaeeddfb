-- `step_bytes::joins::op_join` meets its contract: byte by byte.
use Rattle.step_bytes.proofs.PieceLaws.{op_bytes}
use Rattle.step_bytes.proofs.joins.op_join.Goals as goal

pub returns : goal.returns
returns c = search op_bytes
