-- `indexing::index::slot_for` meets its contract: by the length.
use Rattle.indexing.proofs.SlotLaws.{slot_few, slot_many}
use Rattle.indexing.proofs.index.slot_for.Goals as goal

pub returns-then-length-lt-LARGE_INDEX : goal.returns-then-length-lt-LARGE_INDEX
returns-then-length-lt-LARGE_INDEX c = slot_few _ _ c.if-length-lt-LARGE_INDEX.true

pub returns-else-length-lt-LARGE_INDEX : goal.returns-else-length-lt-LARGE_INDEX
returns-else-length-lt-LARGE_INDEX c = slot_many _ _ c.if-length-lt-LARGE_INDEX.false
