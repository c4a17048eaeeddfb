-- `cost::draws::measured` meets its contract: by what the estimate is.
use Rattle.cost.proofs.draws.measured.Goals as goal

pub returns-in-Some : goal.returns-in-Some
returns-in-Some c = rw c.in-Some.is
