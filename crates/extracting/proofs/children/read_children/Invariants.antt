-- `extracting::children::read_children` meets its contract: the children left give what all give.
use Rattle.extracting.proofs.ChildLaws.{Reading}
use Rattle.extracting.proofs.children.read_children.Given as goal

abbrev pub invariant-loop-k : goal.invariant-loop-k
invariant-loop-k l = Reading l.frame l.initial.bound l.initial.out l.from l.kind l.i l.w l.n l.bound l.out l.at l.k
