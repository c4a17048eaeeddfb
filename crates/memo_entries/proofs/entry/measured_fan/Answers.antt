-- `memo_entries::entry::measured_fan` meets its contract: by what the measurement is.
use Rattle.memo_entries.proofs.entry.measured_fan.Goals as goal

pub returns-in-Accepted : goal.returns-in-Accepted
returns-in-Accepted c = rw c.in-Accepted.is
