-- `run_answers::some::told` meets its contract.
use Rattle.run_answers.proofs.ReplyLaws.{tells_back}
use Rattle.run_answers.proofs.some.told.Goals as goal

pub returns-in-Ok : goal.returns-in-Ok
returns-in-Ok c = rw c.in-Ok.is c.told_reply.ensures

pub returns-in-Err : goal.returns-in-Err
returns-in-Err c = rw c.in-Err.is (tells_back c.args.plan.now _ _ _ _ c.text_number.ensures c.refusal.ensures)
