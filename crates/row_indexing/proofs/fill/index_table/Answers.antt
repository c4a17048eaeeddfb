-- `row_indexing::fill::index_table` meets its contract.
use Rattle.row_indexing.proofs.PlaceLaws.{entries_room, table_indexed}
use Rattle.row_indexing.proofs.fill.index_table.Goals as goal

pub enter_rows-requires : goal.enter_rows-requires
enter_rows-requires c = entries_room c.args.sheet.now c.args.from c.args.index.now _ _ c.requires c.place_rows-n.ensures

pub returns : goal.returns
returns c = table_indexed c.args.sheet.now c.args.from c.args.index.now _ _ c.requires c.place_rows-n.ensures _ c.enter_rows.ensures
