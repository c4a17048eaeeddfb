-- `frame_tests::tests::is_counted` meets its contract.
use Rattle.frame_tests.proofs.tests.is_counted.Goals as goal

pub returns-in-Query : goal.returns-in-Query
returns-in-Query c = rw (c.in-Query.is, c.is_atom.ensures)

pub returns-in-Table : goal.returns-in-Table
returns-in-Table c = rw (c.in-Table.is, c.is_row.ensures)
