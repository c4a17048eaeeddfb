-- `second_reading::lines::counts_of` meets its contract.
use Rattle.second_reading.proofs.SecondLaws.{query_counts, plan_counts_lem}
use Rattle.second_reading.proofs.lines.counts_of.Goals as goal

pub returns-in-Query : goal.returns-in-Query
returns-in-Query c = search query_counts

pub returns-in-Plan : goal.returns-in-Plan
returns-in-Plan c = search plan_counts_lem

pub returns-in-Table : goal.returns-in-Table
returns-in-Table c = rw c.in-Table.is
