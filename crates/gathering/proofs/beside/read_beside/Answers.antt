-- `gathering::beside::read_beside` meets its contract.
use native.Mathlib.Omega.{arith}
use mathlib.Core.Path.{ap}
use Rattle.first_reading.specs.Reading.{as_reading}
use Rattle.gathering.proofs.HandedLaws.{beside_refused, beside_read}
use Rattle.gathering.proofs.beside.read_beside.Goals as goal

pub returns-in-Err : goal.returns-in-Err
returns-in-Err c = (beside_refused _ _ _ _ _ (rw c.is_some.ensures at c.read_query.ensures) _ (ap as_reading c.in-Err.is) _ c.of.ensures)

pub returns : goal.returns
returns c = beside_read _ _ _ _ _ (rw c.is_some.ensures at c.read_query.ensures) _ _ _ (ap as_reading c.in-Ok.is) c.sheet_size.ensures (omega (arith, c.index-1.given, c.requires.index_len_bound))
