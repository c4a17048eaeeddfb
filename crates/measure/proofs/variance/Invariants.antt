-- `variance` meets its contract: as `mean`, over the squares of the distances.
use mathlib.Core.List.{map}
use Rattle.measure.specs.Bootstrap.{square_from}
use Rattle.measure.proofs.Laws.{Summed}
use Rattle.measure.proofs.variance.Given as goal

abbrev pub invariant-loop-m : goal.invariant-loop-m
invariant-loop-m l = Summed (map (square_from l.center) l.means) l.total l.m-index
