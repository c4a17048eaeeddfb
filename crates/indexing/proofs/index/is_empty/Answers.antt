-- `indexing::index::is_empty` meets its contract.
use Rattle.indexing.proofs.index.is_empty.Goals as goal

pub returns : goal.returns
returns c = rw (← c.slot_for.ensures.0, ← c.number_at.ensures.0)
