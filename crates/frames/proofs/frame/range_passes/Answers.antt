-- `frames::frame::range_passes` meets its contract.
use borrow.Author.Tests.{eq-eqb}
use Rattle.frames.proofs.UnreadLaws.{range_unread}
use Rattle.frames.proofs.frame.range_passes.Goals as goal

pub returns-then-tests-eq0 : goal.returns-then-tests-eq0
returns-then-tests-eq0 c = rw (eq-eqb _ _ c.if-tests-eq0.true) (search range_unread)
