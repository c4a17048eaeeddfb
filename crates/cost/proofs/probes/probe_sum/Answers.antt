-- `cost::probes::probe_sum` meets its contract.
use Rattle.cost.proofs.SamplingLaws.{summed_none, summed_again, summed_all, summed_small}
use Rattle.cost.proofs.probes.probe_sum.Goals as goal

pub loop-class-init : goal.loop-class-init
loop-class-init c = search summed_none

pub loop-class-preserved : goal.loop-class-preserved
loop-class-preserved c = search summed_again

pub returns : goal.returns
returns c = (search summed_all, search summed_small)
