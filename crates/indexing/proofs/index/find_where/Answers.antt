-- `indexing::index::find_where` meets its contract.
use mathlib.Core.Path.{◌∙◌}
use Rattle.indexing.proofs.index.find_where.Goals as goal

pub search-requires : goal.search-requires
search-requires c = record { falling = c.requires.falling; hash_value = c.hash_of.ensures }

pub returns : goal.returns
returns c = c.search.ensures ∙ c.requires.is
