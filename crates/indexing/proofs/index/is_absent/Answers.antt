-- `indexing::index::is_absent` meets its contract.
use Rattle.indexing.proofs.index.is_absent.Goals as goal

pub returns : goal.returns
returns c = rw (← c.hash_of.ensures) c.is_empty.ensures
