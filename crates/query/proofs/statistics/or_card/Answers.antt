-- `query::statistics::or_card` meets its contract.
use Rattle.query.proofs.statistics.or_card.Goals as goal

pub returns-in-Some : goal.returns-in-Some
returns-in-Some c = rw c.in-Some.is
