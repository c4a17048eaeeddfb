-- `advancing::advance::take` meets its contract: what scans lowers.
use Rattle.advancing.proofs.AdvanceLaws.{takes}
use Rattle.advancing.proofs.advance.take.Goals as goal

pub returns : goal.returns
returns c = search takes
