-- `query::statistics::by_contains` meets its contract: the frame of kind 14, read.
use mathlib.Core.Path.{refl, ◌∙◌, ap}
use Rattle.query.specs.Statistics.{by_contains, fan_out_at}
use Rattle.given.specs.Kinds.{kind_at}
use Rattle.given.proofs.KeyLaws.{proper}
use borrow.Author.Rules.{rules}
use Rattle.query.proofs.statistics.by_contains.Goals as goal

pub find_in-requires : goal.find_in-requires
unfolding kind_at
find_in-requires c = record { query_key = proper _ _ refl refl refl; given = search rules }

pub returns : goal.returns
unfolding by_contains
returns c = c.fan_out_at.ensures ∙ ap (fan_out_at 2) c.find_in.ensures
