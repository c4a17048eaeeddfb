-- `fields::field::fits_by_code` meets its contract.
use borrow.Author.Tests.{lt-ltb}
use Rattle.fields.specs.Fields.{field_fits}
use Rattle.fields.specs.Codes.{decode}
use Rattle.fields.proofs.FieldLaws.{limits_other}
use Rattle.fields.proofs.field.fits_by_code.Goals as goal

pub returns-in-20 : goal.returns-in-20
unfolding field_fits decode
returns-in-20 c = rw (c.in-20.is, c.short_at.ensures)

pub returns-in-22 : goal.returns-in-22
unfolding field_fits decode
returns-in-22 c = rw c.in-22.is c.class_fits.ensures

pub returns-in-23 : goal.returns-in-23
unfolding field_fits decode
returns-in-23 c = rw (c.in-23.is, c.byte_at.ensures)

pub returns-in-24 : goal.returns-in-24
unfolding field_fits decode
returns-in-24 c = rw (c.in-24.is, c.byte_at-in-24.ensures)

pub returns-in-25 : goal.returns-in-25
unfolding field_fits decode
returns-in-25 c = rw (c.in-25.is, c.site_fits.ensures, c.byte_at-in-25-2.ensures, c.byte_at-in-25.ensures)

pub returns-in-26 : goal.returns-in-26
unfolding field_fits decode
returns-in-26 c = rw (c.in-26.is, c.path_fits.ensures, c.byte_at-in-26-2.ensures, c.byte_at-in-26.ensures)

pub returns-in-27 : goal.returns-in-27
unfolding field_fits decode
returns-in-27 c = rw (c.in-27.is, c.ends_fit.ensures, c.byte_at-in-27-3.ensures, c.byte_at-in-27-2.ensures, c.byte_at-in-27.ensures)

pub returns-in-28 : goal.returns-in-28
unfolding field_fits decode
returns-in-28 c = rw (c.in-28.is, c.rest_fits.ensures, c.byte_at-in-28-2.ensures, c.byte_at-in-28.ensures)

pub returns-in-29 : goal.returns-in-29
unfolding field_fits decode
returns-in-29 c = rw (c.in-29.is, c.lookup_fits.ensures, c.byte_at-in-29-4.ensures, c.byte_at-in-29-3.ensures, c.byte_at-in-29-2.ensures, c.byte_at-in-29.ensures)

pub returns-then-code-lt128 : goal.returns-then-code-lt128
returns-then-code-lt128 c = rw (lt-ltb _ _ c.if-code-lt128.true) (limits_other _ _ _ c.in_default.in_default-own.rest c.if-code-lt128.true)
