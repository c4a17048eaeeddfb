-- `emitters::numbers::set_emitter` meets its contract.
use Rattle.emitters.proofs.EmitterLaws.{set_none, set_some}
use Rattle.emitters.proofs.numbers.set_emitter.Goals as goal

pub returns-then-em-i-eq0 : goal.returns-then-em-i-eq0
returns-then-em-i-eq0 c = search set_none

pub returns-else-em-i-eq0 : goal.returns-else-em-i-eq0
returns-else-em-i-eq0 c = search set_some
