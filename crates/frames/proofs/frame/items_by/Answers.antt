-- `frames::frame::items_by` meets its contract.
use Rattle.frames.proofs.FrameLaws.{items_none, items_some, fixed_some}
use borrow.Author.Rules.{rules}
use Rattle.frames.proofs.frame.items_by.Goals as goal

pub returns-then-lengths-lt16 : goal.returns-then-lengths-lt16
returns-then-lengths-lt16 c = (search items_none, search rules)

pub overflow_sub-from : goal.overflow_sub-from
overflow_sub-from c = search fixed_some

pub returns-else-lengths-lt16 : goal.returns-else-lengths-lt16
returns-else-lengths-lt16 c = (search items_some, search rules)
