-- `samplers::sheets::sheet_probe` meets its contract.
use mathlib.Core.Path.{refl}
use Rattle.table_samples.specs.Kinds.{kind_at}
use Rattle.query.proofs.KeyLaws.{proper}
use Rattle.samplers.proofs.SheetLaws.{probe_read}
use borrow.Author.Rules.{rules}
use Rattle.samplers.proofs.sheets.sheet_probe.Goals as goal

pub find_in-requires : goal.find_in-requires
unfolding kind_at
find_in-requires c = record { query_key = proper _ _ refl refl refl; given = search rules }

pub returns : goal.returns
returns c = search probe_read
