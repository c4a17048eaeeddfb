-- `fields::field::field_passes` meets its contract.
use Rattle.fields.specs.Fields.{field_passes}
use Rattle.fields.proofs.field.field_passes.Goals as goal

pub returns-in-Limits : goal.returns-in-Limits
unfolding field_passes
returns-in-Limits c = rw c.in-Limits.is c.fits_by_code.ensures

pub returns-in-Range : goal.returns-in-Range
unfolding field_passes
returns-in-Range c = rw c.in-Range.is c.field_in.ensures

pub returns-in-Reals : goal.returns-in-Reals
unfolding field_passes
returns-in-Reals c = rw c.in-Reals.is c.field_real.ensures
