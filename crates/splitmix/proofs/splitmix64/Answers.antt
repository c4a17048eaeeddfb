-- `splitmix64` meets its contract: what its callees ensure, put together.
use Rattle.splitmix.proofs.splitmix64.Goals as goal

pub returns : goal.returns
returns c = cc
