-- `indexing::index::search` meets its contract.
use Rattle.std.proofs.Common.{ap, not}
use Rattle.indexing.proofs.SearchLaws.{search_starts, search_none, search_other, search_hit, search_short, search_less}
use Rattle.indexing.proofs.index.search.Goals as goal

pub loop-e-init : goal.loop-e-init
loop-e-init c = search_starts _ _ _ _ _ _ _ c.requires.falling c.requires.hash_value c.slots_for-slots.ensures.0 c.slots_for-slots.ensures.1 c.slot_for.ensures.0 c.number_at-e.ensures.0 c.number_at-e.ensures.1

pub loop-e-smaller-then-not-begins_at : goal.loop-e-smaller-then-not-begins_at
loop-e-smaller-then-not-begins_at c = search_less _ _ _ _ _ c.loop-e.invariant _ c.loop-e-test.true c.number_at-e-in-loop-e.ensures.0

pub loop-e-preserved-then-not-begins_at : goal.loop-e-preserved-then-not-begins_at
loop-e-preserved-then-not-begins_at c = search_other _ _ _ _ _ c.loop-e.invariant _ _ _ c.loop-e-test.true c.number_at-at.ensures.0 c.number_at-e-in-loop-e.ensures.0 c.number_at-e-in-loop-e.ensures.1 c.begins_at.ensures (ap not c.if-not-begins_at.true)

pub returns-then-key-frame : goal.returns-then-key-frame
returns-then-key-frame c = search_hit _ _ _ _ _ c.loop-e.invariant _ _ _ c.loop-e-test.true c.number_at-at.ensures.0 c.number_at-e-in-loop-e.ensures.0 c.number_at-e-in-loop-e.ensures.1 c.begins_at.ensures _ (ap not c.if-not-begins_at.false) c.frame_at-frame.ensures c.if-key-frame.true

pub loop-e-smaller : goal.loop-e-smaller
loop-e-smaller c = search_less _ _ _ _ _ c.loop-e.invariant _ c.loop-e-test.true c.number_at-e-in-loop-e.ensures.0

pub loop-e-preserved : goal.loop-e-preserved
loop-e-preserved c = search_short _ _ _ _ _ c.loop-e.invariant _ _ _ c.loop-e-test.true c.number_at-at.ensures.0 c.number_at-e-in-loop-e.ensures.0 c.number_at-e-in-loop-e.ensures.1 c.begins_at.ensures _ (ap not c.if-not-begins_at.false) c.frame_at-frame.ensures c.if-key-frame.false

pub returns : goal.returns
returns c = search_none _ _ _ _ _ c.loop-e.invariant c.loop-e-test.false
