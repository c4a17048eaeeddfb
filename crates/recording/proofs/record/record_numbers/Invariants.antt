-- `recording::record::record_numbers` meets its contract: the numbers left give what all give.
use lib.ListN.{take}
use Rattle.recording.proofs.ChangedLaws.{Numbered}
use Rattle.recording.proofs.record.record_numbers.Given as goal

abbrev pub invariant-loop-k : goal.invariant-loop-k
invariant-loop-k l = Numbered l.sheet (take l.end l.list) l.initial.em l.em l.k-index
