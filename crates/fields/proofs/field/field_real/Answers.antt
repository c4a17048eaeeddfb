-- `fields::field::field_real` meets its contract.
use borrow.Author.Tests.{ne_eqb}
use Rattle.fields.specs.Fields.{field_real}
use Rattle.fields.specs.Codes.{decode}
use Rattle.fields.proofs.FieldLaws.{reals_other}
use Rattle.fields.proofs.field.field_real.Goals as goal

pub returns-then-code-ne-REAL : goal.returns-then-code-ne-REAL
returns-then-code-ne-REAL c = rw (ne_eqb _ _ c.if-code-ne-REAL.true) (reals_other _ _ _ c.if-code-ne-REAL.true)

pub returns-else-code-ne-REAL : goal.returns-else-code-ne-REAL
unfolding field_real decode
returns-else-code-ne-REAL c = rw (c.if-code-ne-REAL.false, c.real_fits.ensures, c.long_at.ensures)
