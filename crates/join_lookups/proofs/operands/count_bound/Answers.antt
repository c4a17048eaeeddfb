-- `join_lookups::operands::count_bound` meets its contract: the operands left give the rest of the count.
use Rattle.join_lookups.proofs.LookupLaws.{counting_none, count_free, count_one, counted, counted_few}
use Rattle.join_lookups.proofs.operands.count_bound.Goals as goal
use Rattle.join_lookups.proofs.operands.count_bound.Goals.{then-pv_is_bound, else-pv_is_bound}

pub loop-k-init : goal.loop-k-init
loop-k-init c = search counting_none

pub loop-k-preserved : goal.loop-k-preserved
loop-k-preserved c = elim c.if-pv_is_bound.branch [ then-pv_is_bound w ↦ rw w.count-is (count_one _ _ _ _ _ _ _ _ c.loop-k.invariant c.loop-k-test.true _ c.pv_is_bound.ensures w.if-pv_is_bound.true) | else-pv_is_bound w ↦ rw w.count-is (count_free _ _ _ _ _ _ _ _ c.loop-k.invariant c.loop-k-test.true _ c.pv_is_bound.ensures w.if-pv_is_bound.false) ]

pub returns : goal.returns
returns c = (search counted, search counted_few)
