-- `fields::field::count_fits` meets its contract.
use Rattle.fields.specs.Fields.{field_fits}
use Rattle.fields.proofs.FieldLaws.{count_code}
use Rattle.fields.proofs.field.count_fits.Goals as goal

pub returns : goal.returns
unfolding field_fits
returns c = rw (count_code _ c.requires, c.byte_at.ensures)
