-- `cost::memo::counted` meets its contract: by what the measurement is.
use Rattle.frame_tests.proofs.tests.counted.Goals as goal

pub returns-then-is_counted : goal.returns-then-is_counted
returns-then-is_counted c = rw (← c.is_counted.ensures, c.if-is_counted.true)

pub returns-else-is_counted : goal.returns-else-is_counted
returns-else-is_counted c = rw (← c.is_counted.ensures, c.if-is_counted.false)
