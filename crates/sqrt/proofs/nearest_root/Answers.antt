-- `sqrt::nearest_root` meets its contract: the root found is the definition's, since there is one. Assumes nothing.
use Rattle.sqrt.proofs.Laws.{root_small, nearest}
use Rattle.sqrt.proofs.nearest_root.Goals as goal

pub rounded-requires : goal.rounded-requires
rounded-requires c = search root_small

pub returns : goal.returns
returns c = search nearest
