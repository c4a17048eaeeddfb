-- `recording::changed::changed` meets its contract: what is listed, and what is left to list, give the whole.
use mathlib.Core.Path.{refl}
use native.Mathlib.Omega.{arith}
use Rattle.recording.proofs.ChangedLaws.{listing_none, listed, listing_not, listing_more}
use Rattle.recording.proofs.changed.changed.Goals as goal

pub loop-i-init : goal.loop-i-init
loop-i-init c = search listing_none

pub loop-i-preserved-then-is_set : goal.loop-i-preserved-then-is_set
loop-i-preserved-then-is_set c = listing_not _ _ _ _ _ _ _ c.loop-i.invariant c.loop-i-test.true _ refl _ _ c.is_set.ensures c.is_set-in-loop-i.ensures c.if-is_set.true

pub loop-i-preserved : goal.loop-i-preserved
loop-i-preserved c = listing_more _ _ _ _ _ _ _ c.loop-i.invariant c.loop-i-test.true _ refl _ _ c.is_set.ensures c.is_set-in-loop-i.ensures c.if-is_set.false (omega (arith, c.loop-i.invariant.behind, c.loop-i.invariant.size, c.requires.n_in_bounds))

pub returns : goal.returns
returns c = listed _ _ _ _ _ _ _ c.loop-i.invariant c.loop-i-test.false
