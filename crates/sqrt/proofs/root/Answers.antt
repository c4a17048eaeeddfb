-- `sqrt::root` meets its contract: the root of the bits, from what its callees ensure. Assumes nothing.
use Rattle.sqrt.proofs.Floats.{root_of}
use Rattle.sqrt.proofs.root.Goals as goal

pub returns : goal.returns
returns c = search root_of
