-- `lowering::atom::lower_eq` meets its contract: by which sides are bound.
use Rattle.lowering.proofs.AtomLaws.{eq_forth, eq_back, eq_none}
use Rattle.lowering.proofs.atom.lower_eq.Goals as goal

pub returns-then-is_set : goal.returns-then-is_set
returns-then-is_set c = search eq_forth

pub returns-then-is_set-2 : goal.returns-then-is_set-2
returns-then-is_set-2 c = search eq_back

pub returns-else-is_set-2 : goal.returns-else-is_set-2
returns-else-is_set-2 c = search eq_none
