-- `table_run::tables::run_table` meets its contract.
use mathlib.Core.Path.{ap}
use Rattle.first_reading.specs.Reading.{as_reading}
use Rattle.modes.specs.Modes.{mode_of}
use Rattle.reading.proofs.ReadLaws.{read_within, read_fits, read_sheet, read_index}
use Rattle.table_run.proofs.TableLaws.{sheet_lent, table_refused, table_run}
use Rattle.table_run.proofs.tables.run_table.Goals as goal

pub slice_bounds-run_sheets-end : goal.slice_bounds-run_sheets-end
slice_bounds-run_sheets-end c = read_within _ _ _ _ _ c.read_indexed.ensures _ _ (ap as_reading c.in-Ok.is) _ c.sheet_size-size.ensures

pub slice_bounds-run_sheets-end-2 : goal.slice_bounds-run_sheets-end-2
slice_bounds-run_sheets-end-2 c = read_fits _ _ _ _ _ c.read_indexed.ensures _ _ (ap as_reading c.in-Ok.is) _ c.sheet_size-size.ensures

pub run_sheets-requires : goal.run_sheets-requires
run_sheets-requires c = record { plan_sheet = c.requires.plan_sheet; indexed = read_index _ _ _ _ _ c.read_indexed.ensures _ _ (ap as_reading c.in-Ok.is) _ c.sheet_size-size.ensures; sheet_lent = sheet_lent _ _ _ _ _ _ c.requires.table_lent _ c.read_indexed.ensures.is _ _ (ap as_reading c.in-Ok.is) _ (read_sheet _ _ _ _ _ c.read_indexed.ensures _ _ (ap as_reading c.in-Ok.is) _ c.sheet_size-size.ensures) }

pub returns-in-Err : goal.returns-in-Err
returns-in-Err c = table_refused _ _ (mode_of c.args.named) _ c.read_indexed.ensures.is _ (ap as_reading c.in-Err.is) _ c.of.ensures _ _

pub returns : goal.returns
returns c = table_run _ _ (mode_of c.args.named) _ c.read_indexed.ensures.is _ _ (ap as_reading c.in-Ok.is) _ (read_sheet _ _ _ _ _ c.read_indexed.ensures _ _ (ap as_reading c.in-Ok.is) _ c.sheet_size-size.ensures) _ _ _ _ c.run_sheets.ensures
