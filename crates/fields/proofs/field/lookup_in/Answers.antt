-- `fields::field::lookup_in` meets its contract.
use Rattle.field_values.proofs.ChooseLaws.{tests}
use Rattle.fields.proofs.field.lookup_in.Goals as goal

pub returns-in-0 : goal.returns-in-0
returns-in-0 c = search (tests, c.in-0.is)

pub returns-in-2 : goal.returns-in-2
returns-in-2 c = search (tests, c.in-2.is)

pub returns-in_default : goal.returns-in_default
returns-in_default c = search tests
