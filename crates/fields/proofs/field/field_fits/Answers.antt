-- `fields::field::field_fits` meets its contract.
use Rattle.fields.specs.Codes.{decode}
use Rattle.fields.proofs.field.field_fits.Goals as goal

pub returns-then-code-eq-CLASS : goal.returns-then-code-eq-CLASS
unfolding decode
returns-then-code-eq-CLASS c = rw c.if-code-eq-CLASS.true c.class_fits.ensures
