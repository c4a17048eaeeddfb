-- `super::numbers::copy_emitter` meets its contract: by which of the two variables has an emitter.
use Rattle.emitters.proofs.EmitterLaws.{copy_left, copy_right, copy_none}
use Rattle.emitters.proofs.numbers.copy_emitter.Goals as goal

pub returns-then-x-eq0 : goal.returns-then-x-eq0
returns-then-x-eq0 c = search copy_left

pub returns-then-y-eq0 : goal.returns-then-y-eq0
returns-then-y-eq0 c = search copy_right

pub returns-else-y-eq0 : goal.returns-else-y-eq0
returns-else-y-eq0 c = search copy_none
