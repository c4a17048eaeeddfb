use Rattle.output.proofs.PutLaws.{none_put}
use Rattle.output.proofs.bytes.put_first.Goals as goal

pub returns-then-out-at : goal.returns-then-out-at
returns-then-out-at c = search none_put
