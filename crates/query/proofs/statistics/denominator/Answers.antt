-- `query::statistics::denominator` meets its contract: the operator's cardinality, or 0.
use Rattle.query.specs.Statistics.{denominator, op_card}
use Rattle.query.proofs.statistics.denominator.Goals as goal

pub returns-in-Some : goal.returns-in-Some
unfolding denominator op_card
returns-in-Some c = rw (← c.card_by.ensures, c.in-Some.is)

pub returns-in-None : goal.returns-in-None
unfolding denominator op_card
returns-in-None c = rw (← c.card_by.ensures, c.in-None.is)
