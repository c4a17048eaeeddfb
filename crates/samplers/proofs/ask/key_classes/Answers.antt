-- `samplers::ask::key_classes` meets its contract.
use Rattle.samplers.proofs.AskLaws.{classes_of_sheet, classes_of_table}
use Rattle.samplers.proofs.ask.key_classes.Goals as goal

pub table_classes-requires : goal.table_classes-requires
table_classes-requires c = record { in_bounds = c.requires.in_bounds; rows_indexed = c.requires.answers.rows c.if-table.true; node_in_bounds = c.requires.known.below c.if-table.true }

pub returns-then-table : goal.returns-then-table
returns-then-table c = classes_of_table _ _ c.if-table.true _ _ _ _ _ c.table_classes.ensures

pub sheet_classes-requires : goal.sheet_classes-requires
sheet_classes-requires c = record { in_bounds = c.requires.in_bounds; given = c.requires.answers.given }

pub returns : goal.returns
returns c = classes_of_sheet _ _ c.if-table.false _ _ _ _ _ c.sheet_classes.ensures
