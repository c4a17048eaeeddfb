-- `run_answers::runs::packed` meets its contract.
use Rattle.run_answers.proofs.runs.packed.Goals as goal

pub returns-in-Ok : goal.returns-in-Ok
returns-in-Ok c = rw (c.in-Ok.is, ← c.status_number.ensures) c.written.ensures
