-- `indexing::index::find_by` meets its contract.
use Rattle.indexing.proofs.index.find_by.Goals as goal

pub find_where-requires : goal.find_where-requires
find_where-requires c = record { falling = c.requires.indexed.are.falling; is = c.requires.indexed.are.is _ c.requires.proper }

pub returns : goal.returns
returns c = c.find_where.ensures
