-- `memo_entries::entry::place_of` meets its contract: from the latest key on.
use Rattle.memo_entries.proofs.MemoLaws.{searching_all, searching_found, searching_again, searching_none}
use Rattle.memo_entries.proofs.entry.place_of.Goals as goal

pub loop-i-init : goal.loop-i-init
loop-i-init c = search searching_all

pub returns-then-keys-i : goal.returns-then-keys-i
returns-then-keys-i c = search searching_found

pub loop-i-preserved : goal.loop-i-preserved
loop-i-preserved c = search searching_again

pub returns : goal.returns
returns c = search searching_none
