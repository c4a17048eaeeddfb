-- `binding::operands::pv_mark_bound` meets its contract: by the operand's tag.
use Rattle.cost.proofs.Operands.{local_below}
use Rattle.binding.proofs.OperandLaws.{global_marked, local_marked}
use Rattle.binding.proofs.operands.pv_mark_bound.Goals as goal

pub returns-else-byte_at-eq0 : goal.returns-else-byte_at-eq0
returns-else-byte_at-eq0 c = search global_marked

pub set_bound-requires : goal.set_bound-requires
set_bound-requires c = search local_below

pub returns-then-byte_at-eq0 : goal.returns-then-byte_at-eq0
returns-then-byte_at-eq0 c = search local_marked
