-- `step_bytes::single::eq_step` meets its contract: by which of the two are bound.
use Rattle.step_bytes.proofs.SingleLaws.{eq_both, eq_left, eq_right, eq_waits}
use Rattle.step_bytes.proofs.single.eq_step.Goals as goal

pub returns-in-true-true : goal.returns-in-true-true
returns-in-true-true c = eq_both _ _ _ c.in-true-true.ensures c.in-true-true.ensures'

pub returns-in-true-false : goal.returns-in-true-false
returns-in-true-false c = eq_left _ _ _ c.in-true-false.ensures c.in-true-false.ensures'

pub returns-in-false-true : goal.returns-in-false-true
returns-in-false-true c = eq_right _ _ _ c.in-false-true.ensures c.in-false-true.ensures'

pub returns-in-false-false : goal.returns-in-false-false
returns-in-false-false c = eq_waits _ _ _ c.in-false-false.ensures c.in-false-false.ensures'
