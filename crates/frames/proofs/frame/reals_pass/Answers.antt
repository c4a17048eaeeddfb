-- `frames::frame::reals_pass` meets its contract.
use borrow.Author.Tests.{eq-eqb}
use Rattle.frames.proofs.UnreadLaws.{reals_unread}
use Rattle.frames.proofs.frame.reals_pass.Goals as goal

pub returns-then-tests-eq0 : goal.returns-then-tests-eq0
returns-then-tests-eq0 c = rw (eq-eqb _ _ c.if-tests-eq0.true) (search reals_unread)
