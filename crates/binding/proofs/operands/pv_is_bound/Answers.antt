-- `binding::operands::pv_is_bound` meets its contract: by the operand's tag.
use Rattle.binding.proofs.OperandLaws.{global_bound, local_bound}
use Rattle.binding.proofs.operands.pv_is_bound.Goals as goal

pub returns-then-byte_at-ne0 : goal.returns-then-byte_at-ne0
returns-then-byte_at-ne0 c = search global_bound

pub returns-else-byte_at-ne0 : goal.returns-else-byte_at-ne0
returns-else-byte_at-ne0 c = search local_bound
