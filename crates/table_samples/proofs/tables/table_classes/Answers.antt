-- `table_samples::tables::table_classes` meets its contract.
use Rattle.table_samples.proofs.RowClasses.{at_node, at_child, at_element}
use Rattle.table_samples.proofs.tables.table_classes.Goals as goal

pub returns-in-0 : goal.returns-in-0
returns-in-0 c = search at_node

pub returns-in-1 : goal.returns-in-1
returns-in-1 c = search at_child

pub returns-in_default : goal.returns-in_default
returns-in_default c = search at_element
