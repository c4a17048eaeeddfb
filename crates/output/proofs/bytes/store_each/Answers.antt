use native.Mathlib.Omega.{arith}
use lib.ListN.{length-set}
use Rattle.output.proofs.PutLaws.{putting_none, storing_again, stored_all}
use Rattle.output.proofs.bytes.store_each.Goals as goal

pub loop-b-init : goal.loop-b-init
loop-b-init c = search putting_none

pub bounds-out-to-in-loop-b : goal.bounds-out-to-in-loop-b
bounds-out-to-in-loop-b c = simp length-set (omega arith)

pub loop-b-preserved : goal.loop-b-preserved
loop-b-preserved c = search (storing_again, arith)

pub returns : goal.returns
returns c = search stored_all
