-- `table_tests::globals::global_classes` meets its contract: the classes given are those of the first globals.
use Rattle.table_tests.proofs.GlobalLaws.{given_none, given_again, given_all}
use Rattle.table_tests.proofs.globals.global_classes.Goals as goal

pub loop-g-init : goal.loop-g-init
loop-g-init c = search given_none

pub loop-g-preserved : goal.loop-g-preserved
loop-g-preserved c = rw c.from.ensures (search given_again)

pub returns : goal.returns
returns c = search given_all
