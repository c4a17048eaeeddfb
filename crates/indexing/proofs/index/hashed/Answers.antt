-- `indexing::index::hashed` meets its contract: by the table's key length.
use Rattle.indexing.proofs.SlotLaws.{hashed_all, hashed_part}
use borrow.Author.Rules.{rules}
use Rattle.indexing.proofs.index.hashed.Goals as goal

pub returns-then-k-le6 : goal.returns-then-k-le6
returns-then-k-le6 c = (search hashed_all, search rules)

pub returns-else-k-le6 : goal.returns-else-k-le6
returns-else-k-le6 c = (search hashed_part, search rules)
