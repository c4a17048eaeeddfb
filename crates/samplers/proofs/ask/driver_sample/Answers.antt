-- `samplers::ask::driver_sample` meets its contract.
use Rattle.samplers.proofs.AskLaws.{drivers_of_sheet, drivers_of_table}
use Rattle.samplers.proofs.ask.driver_sample.Goals as goal

pub table_drivers-requires : goal.table_drivers-requires
table_drivers-requires c = record { k_in_bounds = c.requires.k_bound.1; rows_indexed = c.requires.answers.rows c.if-table.true }

pub returns-then-table : goal.returns-then-table
returns-then-table c = drivers_of_table _ _ c.if-table.true _ _ _ _ _ c.table_drivers.ensures

pub sheet_drivers-requires : goal.sheet_drivers-requires
sheet_drivers-requires c = record { k_in_bounds = c.requires.k_bound.1; given = c.requires.answers.given }

pub returns : goal.returns
returns c = drivers_of_sheet _ _ c.if-table.false _ _ _ _ _ c.sheet_drivers.ensures
