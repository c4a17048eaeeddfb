-- `samples::memo::estimate` meets its contract: by where the key stands.
use Rattle.samples.proofs.EstimateLaws.{known_gives, key_room, value_room, unknown_gives, measure_ready}
use Rattle.samples.proofs.memo.estimate.Goals as goal

pub returns-then-i-c : goal.returns-then-i-c
returns-then-i-c c = search known_gives

pub measure_key-m-requires : goal.measure_key-m-requires
measure_key-m-requires c = let p = measure_ready _ _ _ _ c.requires.samples c.requires.given in record { k_bound = p.0; bootstrap_bound = p.1.0; given = p.1.1 }

pub entry_of-requires : goal.entry_of-requires
entry_of-requires c = c.pack_key-key.ensures.1

pub bounds-keys-c : goal.bounds-keys-c
bounds-keys-c c = search key_room

pub bounds-values-c : goal.bounds-values-c
bounds-values-c c = search value_room

pub returns : goal.returns
returns c = search unknown_gives
