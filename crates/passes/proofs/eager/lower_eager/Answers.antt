-- `passes::eager::lower_eager` meets its contract: the passes so far, composed; a pass that takes nothing is the last.
use Rattle.passes.proofs.EagerLaws.{no_pass, ready_again, fewer_left, next_pass, no_more}
use Rattle.passes.proofs.eager.lower_eager.Goals as goal

pub loop-more-init : goal.loop-more-init
loop-more-init c = no_pass c.args.sheet.now _ _ _ _

pub eager_pass-d-requires : goal.eager_pass-d-requires
eager_pass-d-requires c = record { located = c.requires.located; ready = ready_again c.args.sheet.now _ _ _ _ _ _ _ _ _ c.loop-more.invariant c.requires.ready }

pub loop-more-smaller : goal.loop-more-smaller
loop-more-smaller c = fewer_left c.args.sheet.now _ _ _ _ _ _ _ _ _ c.loop-more.invariant c.loop-more-test.true _ _ _ _ c.eager_pass-d.ensures

pub loop-more-preserved : goal.loop-more-preserved
loop-more-preserved c = next_pass c.args.sheet.now _ _ _ _ _ _ _ _ _ c.loop-more.invariant c.loop-more-test.true _ _ _ _ c.eager_pass-d.ensures

pub returns : goal.returns
returns c = no_more c.args.sheet.now _ _ _ _ _ _ _ _ _ c.loop-more.invariant c.loop-more-test.false
