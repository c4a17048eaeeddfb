-- `fields::field::field_in` meets its contract.
use Rattle.fields.specs.Fields.{field_in}
use Rattle.fields.specs.Codes.{decode}
use Rattle.fields.proofs.FieldLaws.{range_other}
use Rattle.fields.proofs.field.field_in.Goals as goal

pub returns-in-16 : goal.returns-in-16
unfolding field_in decode
returns-in-16 c = rw (c.in-16.is, c.byte_at.ensures)

pub returns-in-17 : goal.returns-in-17
unfolding field_in decode
returns-in-17 c = rw (c.in-17.is, c.byte_at-in-17.ensures)

pub returns-in-18 : goal.returns-in-18
unfolding field_in decode
returns-in-18 c = rw (c.in-18.is, c.byte_at-in-18.ensures)

pub returns-in-19 : goal.returns-in-19
unfolding field_in decode
returns-in-19 c = rw (c.in-19.is, c.from.ensures, c.byte_at-in-19.ensures)

pub returns-in-23 : goal.returns-in-23
unfolding field_in decode
returns-in-23 c = rw (c.in-23.is, c.operand_in.ensures, c.byte_at-in-23-2.ensures, c.byte_at-in-23.ensures)

pub returns-in-24 : goal.returns-in-24
unfolding field_in decode
returns-in-24 c = rw (c.in-24.is, c.operand_in-in-24.ensures, c.byte_at-in-24-2.ensures, c.byte_at-in-24.ensures)

pub returns-in-29 : goal.returns-in-29
unfolding field_in decode
returns-in-29 c = rw (c.in-29.is, c.lookup_in.ensures, c.byte_at-in-29-3.ensures, c.byte_at-in-29-2.ensures, c.byte_at-in-29.ensures)

pub returns-in-30 : goal.returns-in-30
unfolding field_in decode
returns-in-30 c = rw (c.in-30.is, c.from-in-30.ensures, c.short_at.ensures)

pub returns-in_default : goal.returns-in_default
returns-in_default c = range_other _ _ _ _ c.in_default.in_default-own.rest
