-- `class_sets::set::add_class` meets its contract.
use Rattle.class_sets.proofs.SetLaws.{class_added}
use Rattle.class_sets.proofs.set.add_class.Goals as goal

pub returns : goal.returns
returns c = class_added _ _ _ c.from-c.ensures _ c.with_bit.ensures
