-- `entries::run::run` meets its contract.
use Rattle.std.proofs.result.Match.{err_is}
use Rattle.entries.proofs.EntryLaws.{run_refused, run_whole}
use Rattle.entries.proofs.run.run.Goals as goal

pub returns-in_err-handed : goal.returns-in_err-handed
returns-in_err-handed c = rw (err_is _ _ c.from_residual.ensures.1) (run_refused _ _ _ _ _ _ _ c.in_err-handed.ensures)

pub returns : goal.returns
returns c = run_whole _ _ _ _ _ _ _ c.in_ok-handed.ensures _ c.status_of.ensures
