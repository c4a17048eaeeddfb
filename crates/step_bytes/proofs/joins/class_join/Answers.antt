use Rattle.step_bytes.proofs.PieceLaws.{class_bytes_lem}
use Rattle.step_bytes.proofs.joins.class_join.Goals as goal

pub returns : goal.returns
returns c = search class_bytes_lem
