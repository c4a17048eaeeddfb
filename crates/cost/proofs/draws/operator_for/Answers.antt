-- `cost::draws::operator_for` meets its contract.
use Rattle.cost.proofs.OperatorLaws.{no_operator}
use Rattle.cost.proofs.draws.operator_for.Goals as goal

pub returns : goal.returns
returns c = search no_operator
