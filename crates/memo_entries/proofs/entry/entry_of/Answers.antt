-- `memo_entries::entry::entry_of` meets its contract: by whether there is a value.
use Rattle.memo_entries.proofs.entry.entry_of.Goals as goal

pub returns-in-Some : goal.returns-in-Some
returns-in-Some c = rw c.in-Some.is

pub returns-in-None : goal.returns-in-None
returns-in-None c = rw c.in-None.is
