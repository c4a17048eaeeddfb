-- `cost::probes::probe_sum` meets its contract.
use lib.ListN.{take}
use Rattle.samplers.specs.Sheet.{frames_in}
use Rattle.samplers.specs.Samplers.{sampler_by}
use Rattle.cost.proofs.SamplingLaws.{Summed}
use Rattle.cost.proofs.probes.probe_sum.Given as goal

abbrev pub invariant-loop-class : goal.invariant-loop-class
invariant-loop-class l = Summed (sampler_by l.table (frames_in l.sheet)) l.x (take l.n l.classes) l.sum l.class-index
