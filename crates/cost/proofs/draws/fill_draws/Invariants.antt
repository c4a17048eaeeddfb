-- `cost::draws::fill_draws` meets its contract.
use mathlib.Core.Path.{◌≡◌}
use lib.ListN.{length, take}
use Rattle.samplers.specs.Sheet.{frames_in}
use Rattle.samplers.specs.Samplers.{sampler_by}
use Rattle.cost.proofs.DrawLaws.{Filling}
use Rattle.cost.proofs.draws.fill_draws.Given as goal

abbrev pub invariant-loop-node : goal.invariant-loop-node
invariant-loop-node l = Filling (sampler_by l.table (frames_in l.sheet)) l.x (take l.n l.nodes) l.initial.draws l.draws l.c l.node-index × (length l.classes ≡ 256)
