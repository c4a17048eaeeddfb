-- `first_reading::first::first_reading` meets its contract.
use native.Mathlib.Omega.{arith}
use mathlib.Core.Path.{refl}
use Rattle.std.proofs.result.Match.{err_is}
use Rattle.first_reading.proofs.FirstLaws.{too_long, is_empty, is_read, refused_on}
use Rattle.first_reading.proofs.first.first_reading.Goals as goal

pub returns-then-text-gt65536 : goal.returns-then-text-gt65536
returns-then-text-gt65536 c = search too_long

pub returns-then-text-eq0 : goal.returns-then-text-eq0
returns-then-text-eq0 c = search is_empty

pub returns-in_err-lines : goal.returns-in_err-lines
returns-in_err-lines c = rw (err_is _ _ c.from_residual.ensures.1) (refused_on _ _ _ (omega arith) _ _ _ c.if-text-eq0.false c.in_err-lines.ensures)

pub returns : goal.returns
returns c = is_read _ _ _ (omega arith) _ _ _ c.if-text-eq0.false c.in_ok-lines.ensures c.steps_right.ensures
