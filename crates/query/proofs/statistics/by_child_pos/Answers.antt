-- `query::statistics::by_child_pos` meets its contract: the frame of kind 13, read.
use mathlib.Core.Path.{refl, ◌∙◌, ap}
use Rattle.query.specs.Statistics.{by_child_pos, fan_out_at}
use Rattle.given.specs.Kinds.{kind_at}
use Rattle.given.proofs.KeyLaws.{proper}
use borrow.Author.Rules.{rules}
use Rattle.query.proofs.statistics.by_child_pos.Goals as goal

pub find_in-requires : goal.find_in-requires
unfolding kind_at
find_in-requires c = record { query_key = proper _ _ refl refl refl; given = search rules }

pub returns : goal.returns
unfolding by_child_pos
returns c = c.fan_out_at.ensures ∙ ap (fan_out_at 3) c.find_in.ensures
