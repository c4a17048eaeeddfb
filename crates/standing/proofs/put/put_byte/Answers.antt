-- `standing::put::put_byte` meets its contract.
use Rattle.standing.proofs.PutLaws.{lays_byte}
use Rattle.standing.proofs.put.put_byte.Goals as goal

pub returns : goal.returns
returns c = search lays_byte
