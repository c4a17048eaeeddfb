-- `query::statistics::by_repr` meets its contract: the frame of kind 12, read.
use mathlib.Core.Path.{refl, ◌∙◌, ap}
use Rattle.query.specs.Statistics.{by_repr, repr_of}
use Rattle.given.specs.Kinds.{kind_at}
use Rattle.given.proofs.KeyLaws.{proper}
use borrow.Author.Rules.{rules}
use Rattle.query.proofs.statistics.by_repr.Goals as goal

pub find_in-requires : goal.find_in-requires
unfolding kind_at
find_in-requires c = record { query_key = proper _ _ refl refl refl; given = search rules }

pub returns : goal.returns
unfolding by_repr
returns c = c.repr_of.ensures ∙ ap repr_of c.find_in.ensures
