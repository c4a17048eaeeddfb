-- `frame_tests::tests::header_first` meets its contract.
use Rattle.frame_tests.proofs.tests.header_first.Goals as goal

pub returns-then-first : goal.returns-then-first
returns-then-first c = rw c.if-first.true c.is_header.ensures

pub returns-else-first : goal.returns-else-first
returns-else-first c = rw (c.if-first.false, c.is_header-else-first.ensures)
