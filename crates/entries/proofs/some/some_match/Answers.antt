-- `entries::some::some_match` meets its contract.
use native.Mathlib.Omega.{arith}
use Rattle.std.proofs.result.Match.{err_is}
use Rattle.entries.proofs.EntryLaws.{some_refused, some_answers}
use Rattle.entries.specs.declared.run.Status.TheVariants.{Done, Spent, Full}
use Rattle.entries.proofs.some.some_match.Goals as goal

pub returns-in_err-handed : goal.returns-in_err-handed
returns-in_err-handed c = rw (err_is _ _ c.from_residual.ensures.1) (some_refused _ _ _ _ _ _ _ c.in_err-handed.ensures)

pub returns-in-Done : goal.returns-in-Done
returns-in-Done c = some_answers _ _ _ _ _ _ _ c.in_ok-handed.ensures _ c.status_of.ensures (omega arith) Done c.in-Done.is

pub returns-in-Spent : goal.returns-in-Spent
returns-in-Spent c = some_answers _ _ _ _ _ _ _ c.in_ok-handed.ensures _ c.status_of.ensures (omega arith) Spent c.in-Spent.is

pub returns-in-Full : goal.returns-in-Full
returns-in-Full c = some_answers _ _ _ _ _ _ _ c.in_ok-handed.ensures _ c.status_of.ensures (omega arith) Full c.in-Full.is
