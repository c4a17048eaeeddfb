-- `query::statistics::settings` meets its contract: the frame of kind 20, read.
use mathlib.Core.Path.{refl, ◌∙◌, ap}
use Rattle.query.specs.Statistics.{sampled_of, settings as settings_of}
use Rattle.given.specs.Kinds.{kind_at}
use Rattle.given.proofs.KeyLaws.{proper}
use borrow.Author.Rules.{rules}
use Rattle.query.proofs.statistics.settings.Goals as goal

pub find_in-requires : goal.find_in-requires
unfolding kind_at
find_in-requires c = record { query_key = proper _ _ refl refl refl; given = search rules }

pub returns : goal.returns
unfolding settings_of
returns c = c.sampled_of.ensures ∙ ap sampled_of c.find_in.ensures
