-- `step_bytes::operand::item_at` meets its contract: the operand, and the byte behind it.
use Rattle.step_bytes.proofs.PieceLaws.{item_bytes_lem}
use Rattle.step_bytes.proofs.operand.item_at.Goals as goal

pub returns : goal.returns
returns c = search item_bytes_lem
