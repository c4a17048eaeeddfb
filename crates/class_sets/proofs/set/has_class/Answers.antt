-- `class_sets::set::has_class` meets its contract.
use borrow.Author.Tests.{le-ltb}
use Rattle.class_sets.proofs.SetLaws.{class_past, class_here}
use Rattle.class_sets.proofs.set.has_class.Goals as goal

pub returns-then-c-set : goal.returns-then-c-set
returns-then-c-set c = class_here _ _ _ c.from-c.ensures _ c.has_bit.ensures

pub returns-else-c-set : goal.returns-else-c-set
returns-else-c-set c = rw (le-ltb _ _ c.if-c-set.false) (class_past _ _ _ c.from-c.ensures c.if-c-set.false)
