-- `join_lookups::operands::put_lookups` meets its contract: the operands left give what all give.
use borrow.Author.Rules.{rules}
use Rattle.join_lookups.proofs.LookupLaws.{looking_none, look_free, look_bound, looked, looked_room, lookup_fits_lem}
use Rattle.join_lookups.proofs.operands.put_lookups.Goals as goal
use Rattle.join_lookups.proofs.operands.put_lookups.Goals.{then-pv_is_bound, else-pv_is_bound}

pub loop-k-init : goal.loop-k-init
loop-k-init c = search looking_none

pub put_first-at-requires : goal.put_first-at-requires
put_first-at-requires c = record { n_in_bounds = search lookup_fits_lem; n_bound = search rules; at_bound = search rules }

pub loop-k-preserved : goal.loop-k-preserved
loop-k-preserved c = elim c.if-pv_is_bound.branch [ then-pv_is_bound w ↦ rw (w.out-is, w.at-is) (look_bound _ _ _ _ _ _ _ _ _ _ _ c.loop-k.invariant c.loop-k-test.true _ c.pv_is_bound.ensures _ _ _ _ w.if-pv_is_bound.true w.lookup_at-lookup.ensures (search rules) w.put_first-at.ensures) | else-pv_is_bound w ↦ rw (w.out-is, w.at-is) (look_free _ _ _ _ _ _ _ _ _ _ _ c.loop-k.invariant c.loop-k-test.true _ c.pv_is_bound.ensures w.if-pv_is_bound.false) ]

pub returns : goal.returns
returns c = record { upper_bound = search looked_room; puts_bytes = search looked }
