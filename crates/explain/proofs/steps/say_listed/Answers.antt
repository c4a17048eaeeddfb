-- `explain::steps::say_listed` meets its contract: the items in turn.
use Rattle.explain.proofs.Walks.{listing_none, listing_again}
use Rattle.explain.proofs.steps.say_listed.Goals as goal

pub loop-k-init : goal.loop-k-init
loop-k-init c = search listing_none

pub loop-k-preserved : goal.loop-k-preserved
loop-k-preserved c = search listing_again
