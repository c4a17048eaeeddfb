-- `frame_tests::tests::has_room` meets its contract.
use Rattle.frame_tests.proofs.tests.has_room.Goals as goal

pub returns-then-not-is_counted : goal.returns-then-not-is_counted
returns-then-not-is_counted c = rw (← c.is_counted.ensures, c.if-not-is_counted.true)

pub returns-else-not-is_counted : goal.returns-else-not-is_counted
returns-else-not-is_counted c = rw (← c.is_counted.ensures, c.if-not-is_counted.false, c.counted_most.ensures)
