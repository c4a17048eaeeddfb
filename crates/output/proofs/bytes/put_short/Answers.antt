-- `output::bytes::put_short` meets its contract.
use Rattle.output.proofs.PutLaws.{short_put}
use Rattle.output.proofs.bytes.put_short.Goals as goal

pub returns : goal.returns
returns c = search short_put
