-- `recording::record::set_items` meets its contract: the items left, set, give what all give.
use Rattle.recording.proofs.ItemLaws.{Setting}
use Rattle.recording.proofs.record.set_items.Given as goal

abbrev pub invariant-loop-k : goal.invariant-loop-k
invariant-loop-k l = Setting l.frame l.i l.w l.n l.atom l.elements l.initial.em l.em l.k
