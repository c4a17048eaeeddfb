-- `binding::operands::mark_operands` meets its contract: the operands left, marked, give what all give.
use Rattle.binding.proofs.OperandLaws.{marked_none, next_below, marked_again, marked_all}
use borrow.Author.Rules.{rules}
use Rattle.binding.proofs.operands.mark_operands.Goals as goal

pub loop-k-init : goal.loop-k-init
loop-k-init c = search marked_none

pub pv_mark_bound-requires : goal.pv_mark_bound-requires
pv_mark_bound-requires c = record { i_bound = search rules; i_value = search next_below }

pub loop-k-preserved : goal.loop-k-preserved
loop-k-preserved c = search marked_again

pub returns : goal.returns
returns c = search marked_all
