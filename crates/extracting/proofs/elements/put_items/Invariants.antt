-- `extracting::elements::put_items` meets its contract: the items left give what all give.
use Prim.Native.Nat.{◌+◌, ◌*◌}
use Rattle.extracting.proofs.ElementLaws.{Listing}
use Rattle.extracting.proofs.elements.put_items.Given as goal

abbrev pub invariant-loop-k : goal.invariant-loop-k
invariant-loop-k l = Listing l.frame l.w l.initial.out l.from l.n l.out (l.i + l.w * l.k) l.at l.k
