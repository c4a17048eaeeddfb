-- `binding::operands::all_set` meets its contract: the numbers left decide what all decide.
use Rattle.binding.proofs.OperandLaws.{all_none, all_stops, all_again, all_all}
use Rattle.binding.proofs.operands.all_set.Goals as goal

pub loop-k-init : goal.loop-k-init
loop-k-init c = search all_none

pub returns-then-not-is_set : goal.returns-then-not-is_set
returns-then-not-is_set c = search all_stops

pub loop-k-preserved : goal.loop-k-preserved
loop-k-preserved c = search all_again

pub returns : goal.returns
returns c = search all_all
