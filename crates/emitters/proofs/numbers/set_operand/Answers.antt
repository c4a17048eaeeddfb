-- `emitters::numbers::set_operand` meets its contract.
use Rattle.cost.proofs.Operands.{local_below}
use Rattle.emitters.proofs.EmitterLaws.{local_set, global_kept}
use Rattle.emitters.proofs.numbers.set_operand.Goals as goal

pub set_emitter-requires : goal.set_emitter-requires
set_emitter-requires c = search local_below

pub returns-then-byte_at-eq0 : goal.returns-then-byte_at-eq0
returns-then-byte_at-eq0 c = search local_set

pub returns-else-byte_at-eq0 : goal.returns-else-byte_at-eq0
returns-else-byte_at-eq0 c = search global_kept
