-- `binding::operands::mark_items` meets its contract: the items are the operands that the table of kinds gives.
use Rattle.binding.proofs.OperandLaws.{items_below, items_marked}
use borrow.Author.Rules.{rules}
use Rattle.binding.proofs.operands.mark_items.Goals as goal

pub mark_operands-requires : goal.mark_operands-requires
mark_operands-requires c = record { i_bound = search rules; w_bound = search rules; n_bound = search rules; n_value = search items_below }

pub returns : goal.returns
returns c = search items_marked
