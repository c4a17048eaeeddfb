-- `fields::field::class_fits` meets its contract.
use Rattle.fields.specs.Fields.{field_fits}
use Rattle.fields.proofs.field.class_fits.Goals as goal

pub returns : goal.returns
unfolding field_fits
returns c = rw c.short_at.ensures
