use Rattle.output.proofs.PutLaws.{putting_none, putting_again, putting_all}
use Rattle.output.proofs.bytes.put_each.Goals as goal

pub loop-b-init : goal.loop-b-init
loop-b-init c = search putting_none

pub loop-b-preserved : goal.loop-b-preserved
loop-b-preserved c = search putting_again

pub returns : goal.returns
returns c = search putting_all
