-- `query::statistics::in_full` meets its contract.
use Rattle.query.proofs.statistics.in_full.Goals as goal

pub returns-in-Some : goal.returns-in-Some
returns-in-Some c = rw c.in-Some.is
