-- `recording::record::record_items` meets its contract: the items are the operands that the table of kinds gives.
use Rattle.binding.proofs.OperandLaws.{items_below}
use Rattle.recording.proofs.ItemLaws.{items_set}
use borrow.Author.Rules.{rules}
use Rattle.recording.proofs.record.record_items.Goals as goal

pub set_items-requires : goal.set_items-requires
set_items-requires c = record { i_bound = search rules; w_bound = search rules; n_bound = search rules; n_value = search items_below }

pub returns : goal.returns
returns c = search items_set
