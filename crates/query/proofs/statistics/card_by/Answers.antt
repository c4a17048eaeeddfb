-- `query::statistics::card_by` meets its contract: the frame of that kind, read.
use mathlib.Core.Path.{◌∙◌, ap}
use Rattle.query.specs.Statistics.{card_of}
use Rattle.query.proofs.LookupLaws.{card_proper}
use borrow.Author.Rules.{rules}
use Rattle.query.proofs.statistics.card_by.Goals as goal

pub find_in-requires : goal.find_in-requires
find_in-requires c = record { query_key = card_proper _ _ c.requires.le_kind; given = search rules }

pub returns : goal.returns
returns c = c.card_of.ensures ∙ ap card_of c.find_in.ensures
