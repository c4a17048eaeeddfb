-- `samplers::sheets::sheet_drivers` meets its contract.
use mathlib.Core.Path.{refl}
use Rattle.table_samples.specs.Kinds.{kind_at}
use Rattle.query.proofs.KeyLaws.{proper}
use Rattle.samplers.proofs.SheetLaws.{drivers_room, drivers_listed}
use borrow.Author.Rules.{rules}
use Rattle.samplers.proofs.sheets.sheet_drivers.Goals as goal

pub find_in-frame-requires : goal.find_in-frame-requires
unfolding kind_at
find_in-frame-requires c = record { query_key = proper _ _ refl refl refl; given = search rules }

pub copy_shorts-requires : goal.copy_shorts-requires
copy_shorts-requires c = search drivers_room

pub returns : goal.returns
returns c = search drivers_listed
