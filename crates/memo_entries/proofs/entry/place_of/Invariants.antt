-- `memo_entries::entry::place_of` meets its contract: from the latest key on.
use Rattle.memo_entries.proofs.MemoLaws.{Searching}
use Rattle.memo_entries.proofs.entry.place_of.Given as goal

abbrev pub invariant-loop-i : goal.invariant-loop-i
invariant-loop-i l = Searching l.keys l.m l.key l.i
