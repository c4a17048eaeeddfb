-- `kinds::table::codes_of` meets its contract.
use Rattle.kinds.proofs.KindLaws.{row_codes}
use Rattle.kinds.proofs.table.codes_of.Goals as goal

pub returns : goal.returns
returns c = row_codes _ _ c.row.ensures
