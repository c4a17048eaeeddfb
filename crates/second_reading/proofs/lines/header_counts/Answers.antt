-- `second_reading::lines::header_counts` meets its contract.
use Rattle.second_reading.proofs.lines.header_counts.Goals as goal

pub returns : goal.returns
returns c = cc
