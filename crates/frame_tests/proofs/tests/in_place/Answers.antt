-- `frame_tests::tests::in_place` meets its contract.
use Rattle.frame_tests.proofs.tests.in_place.Goals as goal

pub returns-in-Query : goal.returns-in-Query
returns-in-Query c = rw (c.in-Query.is, c.header_first.ensures)

pub returns-in-Plan : goal.returns-in-Plan
returns-in-Plan c = rw (c.in-Plan.is, c.header_first-in-Plan.ensures)
