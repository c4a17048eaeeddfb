-- `indexing::index::slots_for` meets its contract: by the length.
use borrow.Author.Rules.{rules}
use Rattle.frame_keys.proofs.ChooseLaws.{tests}
use Rattle.indexing.proofs.index.slots_for.Goals as goal

pub returns-then-length-lt-LARGE_INDEX : goal.returns-then-length-lt-LARGE_INDEX
returns-then-length-lt-LARGE_INDEX c = (search tests, search rules)

pub returns-else-length-lt-LARGE_INDEX : goal.returns-else-length-lt-LARGE_INDEX
returns-else-length-lt-LARGE_INDEX c = (search tests, search rules)
