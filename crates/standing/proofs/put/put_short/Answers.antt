-- `standing::put::put_short` meets its contract.
use Rattle.standing.proofs.PutLaws.{lays_short}
use Rattle.standing.proofs.put.put_short.Goals as goal

pub returns : goal.returns
returns c = lays_short _ c.put_byte-to.ensures c.high_of.ensures c.put_byte.ensures c.low_of.ensures
