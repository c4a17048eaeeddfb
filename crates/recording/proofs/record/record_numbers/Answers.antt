-- `recording::record::record_numbers` meets its contract: the numbers left give what all give.
use borrow.Author.Rules.{rules}
use Rattle.recording.proofs.ChangedLaws.{numbered_none, numbered_sized, numbered_more, numbered_all}
use Rattle.recording.proofs.record.record_numbers.Goals as goal

pub loop-k-init : goal.loop-k-init
loop-k-init c = search numbered_none

pub record_number-requires : goal.record_number-requires
record_number-requires c = record { located = search rules; em_len = search numbered_sized }

pub loop-k-preserved : goal.loop-k-preserved
loop-k-preserved c = search numbered_more

pub returns : goal.returns
returns c = search numbered_all
