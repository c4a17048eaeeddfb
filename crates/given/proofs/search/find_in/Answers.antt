-- `given::search::find_in` meets its contract.
use Rattle.given.proofs.search.find_in.Goals as goal

pub find_where-requires : goal.find_where-requires
find_where-requires c = rw c.query_part.ensures (c.requires.given.keyed.found _ c.requires.query_key)
