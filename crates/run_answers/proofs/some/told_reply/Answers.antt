-- `run_answers::some::told_reply` meets its contract.
use mathlib.Core.Path.{refl}
use Rattle.run_answers.proofs.ReplyLaws.{tells_match}
use Rattle.run_answers.proofs.some.told_reply.Goals as goal

pub returns-in-None : goal.returns-in-None
returns-in-None c = rw c.in-None.is (record { number = refl; output = refl })

pub returns-in-Spent : goal.returns-in-Spent
returns-in-Spent c = rw c.in-Spent.is (record { number = refl; output = refl })

pub returns-in-Match : goal.returns-in-Match
returns-in-Match c = rw c.in-Match.is (tells_match c.args.plan.now _ _ _ c.place_line.ensures)
