-- `samplers::ask::probe_len` meets its contract.
use Rattle.samplers.proofs.AskLaws.{probe_of_sheet, probe_of_table}
use Rattle.samplers.proofs.ask.probe_len.Goals as goal

pub table_probe-requires : goal.table_probe-requires
table_probe-requires c = c.requires.rows c.if-table.true

pub returns-then-table : goal.returns-then-table
returns-then-table c = probe_of_table _ _ c.if-table.true _ _ _ _ _ c.table_probe.ensures

pub sheet_probe-requires : goal.sheet_probe-requires
sheet_probe-requires c = c.requires.given

pub returns : goal.returns
returns c = probe_of_sheet _ _ c.if-table.false _ _ _ _ _ c.sheet_probe.ensures
