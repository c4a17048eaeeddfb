-- `given::search::asks_table` meets its contract.
use mathlib.Core.Path.{refl}
use Rattle.buckets.specs.Kinds.{kind_at}
use Rattle.given.proofs.KeyLaws.{proper, table_taken}
use Rattle.given.proofs.search.asks_table.Goals as goal

pub find_where-requires : goal.find_where-requires
unfolding kind_at
find_where-requires c = rw c.query_part.ensures (c.requires.found _ (proper _ _ refl refl refl))

pub returns : goal.returns
returns c = search table_taken
