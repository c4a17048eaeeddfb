-- `frame_tests::tests::belongs` meets its contract.
use borrow.Author.Tests.{eq-eqb, ne_eqb}
use Rattle.frame_tests.proofs.tests.belongs.Goals as goal

pub returns-then-text-text_number : goal.returns-then-text-text_number
returns-then-text-text_number c = rw (← c.requires, ← c.text_number.ensures, eq-eqb _ _ c.if-text-text_number.true) c.in_place.ensures

pub returns-else-text-text_number : goal.returns-else-text-text_number
returns-else-text-text_number c = rw (ne_eqb _ _ c.if-text-text_number.false, ← c.requires, ← c.text_number.ensures, ne_eqb _ _ c.if-text-text_number.false)
