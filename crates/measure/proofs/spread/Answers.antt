-- `spread` meets its contract: the part of the array that is lent holds the resampled means.
use native.Mathlib.Omega.{arith}
use mathlib.Core.Path.{ap, sym, ◌∙◌}
use lib.ListN.{length}
use Rattle.measure.proofs.Laws.{length_means}
use Rattle.measure.proofs.spread.Goals as goal

pub slice_bounds-variance-end : goal.slice_bounds-variance-end
slice_bounds-variance-end c = sym (ap length c.resampled_means-means.ensures ∙ length_means _ _ _)

pub variance-requires : goal.variance-requires
variance-requires c = rw (c.resampled_means-means.ensures, length_means) (omega arith)

pub returns : goal.returns
returns c = rw (← c.resampled_means-means.ensures) c.variance.ensures
