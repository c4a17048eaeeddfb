-- `query::statistics::base_card` meets its contract: the atom's cardinality, then the operator's.
use Rattle.query.specs.Statistics.{base_card, op_card, atom_card}
use Rattle.query.proofs.statistics.base_card.Goals as goal

pub returns : goal.returns
unfolding base_card op_card atom_card
returns c = rw (← c.card_by-known.ensures, ← c.card_by.ensures, ← c.or_card.ensures) c.in_full.ensures
