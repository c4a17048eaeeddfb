-- `recording::record::set_items` meets its contract: the items left, set, give what all give.
use Rattle.recording.proofs.ItemLaws.{setting_none, next_below, setting_again, setting_all}
use borrow.Author.Rules.{rules}
use Rattle.recording.proofs.record.set_items.Goals as goal

pub loop-k-init : goal.loop-k-init
loop-k-init c = search setting_none

pub set_operand-requires : goal.set_operand-requires
set_operand-requires c = record { i_bound = search rules; i_value = search next_below }

pub loop-k-preserved : goal.loop-k-preserved
loop-k-preserved c = search setting_again

pub returns : goal.returns
returns c = search setting_all
