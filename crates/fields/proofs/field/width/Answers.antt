-- `fields::field::width` meets its contract.
use Rattle.fields.specs.Codes.{decode}
use Rattle.fields.proofs.FieldLaws.{narrow_other}
use borrow.Author.Rules.{rules}
use Rattle.fields.proofs.field.width.Goals as goal

pub returns-in-20 : goal.returns-in-20
unfolding decode
returns-in-20 c = (rw c.in-20.is, search rules)

pub returns-in-21 : goal.returns-in-21
unfolding decode
returns-in-21 c = (rw c.in-21.is, search rules)

pub returns-in-22 : goal.returns-in-22
unfolding decode
returns-in-22 c = (rw c.in-22.is, search rules)

pub returns-in-23 : goal.returns-in-23
unfolding decode
returns-in-23 c = (rw c.in-23.is, search rules)

pub returns-in-24 : goal.returns-in-24
unfolding decode
returns-in-24 c = (rw c.in-24.is, search rules)

pub returns-in-25 : goal.returns-in-25
unfolding decode
returns-in-25 c = (rw c.in-25.is, search rules)

pub returns-in-26 : goal.returns-in-26
unfolding decode
returns-in-26 c = (rw c.in-26.is, search rules)

pub returns-in-27 : goal.returns-in-27
unfolding decode
returns-in-27 c = (rw c.in-27.is, search rules)

pub returns-in-28 : goal.returns-in-28
unfolding decode
returns-in-28 c = (rw c.in-28.is, search rules)

pub returns-in-29 : goal.returns-in-29
unfolding decode
returns-in-29 c = (rw c.in-29.is, search rules)

pub returns-in-30 : goal.returns-in-30
unfolding decode
returns-in-30 c = (rw c.in-30.is, search rules)

pub returns-in_default : goal.returns-in_default
returns-in_default c = (narrow_other _ c.requires c.in_default.in_default-own.rest, search rules)
