-- `fields::field::operand_in_lem` meets its contract.
use Rattle.field_values.proofs.ChooseLaws.{tests}
use Rattle.fields.proofs.field.operand_in.Goals as goal

pub returns-then-tag-eq0 : goal.returns-then-tag-eq0
returns-then-tag-eq0 c = search tests

pub returns-else-tag-eq0 : goal.returns-else-tag-eq0
returns-else-tag-eq0 c = search tests
