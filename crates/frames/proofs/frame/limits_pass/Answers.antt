-- `frames::frame::limits_pass` meets its contract.
use borrow.Author.Tests.{eq-eqb}
use Rattle.kinds.specs.Fields.{field_passes}
use Rattle.frames.proofs.UnreadLaws.{limits_unread}
use Rattle.frames.proofs.frame.limits_pass.Goals as goal

pub returns-then-tests-eq0 : goal.returns-then-tests-eq0
returns-then-tests-eq0 c = rw (eq-eqb _ _ c.if-tests-eq0.true) (search limits_unread)

pub returns-else-tests-eq0 : goal.returns-else-tests-eq0
unfolding field_passes
returns-else-tests-eq0 c = c.frame_passes.ensures
