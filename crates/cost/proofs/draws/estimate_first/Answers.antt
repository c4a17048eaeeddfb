-- `cost::draws::estimate_first` meets its contract: by whether there are draws.
use Rattle.hexadecimal.proofs.Lists.{taken}
use Rattle.cost.proofs.DrawLaws.{a_sample, some_draws}
use borrow.Author.Rules.{rules}
use Rattle.cost.proofs.draws.estimate_first.Goals as goal

pub slice_bounds-estimate_draws-end : goal.slice_bounds-estimate_draws-end
slice_bounds-estimate_draws-end c = search taken

pub estimate_draws-requires : goal.estimate_draws-requires
estimate_draws-requires c = record { sample = search a_sample; bootstrap_bound = search rules }

pub returns : goal.returns
returns c = search some_draws
