-- `second_reading::sheets::table_for` meets its contract.
use Rattle.second_reading.proofs.FromTableLaws.{where_handed}
use Rattle.second_reading.proofs.sheets.table_for.Goals as goal

pub returns-then-handed : goal.returns-then-handed
returns-then-handed c = search where_handed
