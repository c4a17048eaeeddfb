-- `memo_entries::entry::fan_at` meets its contract: by whether the entry has a value.
use Rattle.memo_entries.proofs.ValueLaws.{value_there, no_value}
use Rattle.memo_entries.proofs.entry.fan_at.Goals as goal

pub returns-then-keys-i-eq1 : goal.returns-then-keys-i-eq1
returns-then-keys-i-eq1 c = search value_there

pub returns : goal.returns
returns c = search no_value
