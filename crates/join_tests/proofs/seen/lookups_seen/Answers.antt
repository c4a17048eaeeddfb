-- `join_tests::seen::lookups_seen` meets its contract: those left give the rest.
use Rattle.join_tests.proofs.LookupLaws.{seeing_none, seeing_again, seeing_all}
use native.Mathlib.Omega.{arith}
use Rattle.join_tests.proofs.seen.lookups_seen.Goals as goal

pub loop-k-init : goal.loop-k-init
loop-k-init c = search seeing_none

pub lookup_seen-s-requires : goal.lookup_seen-s-requires
lookup_seen-s-requires c = record { i_bound = omega arith; ops_bound = omega (arith, c.loop-k.invariant.low) }

pub loop-k-preserved : goal.loop-k-preserved
loop-k-preserved c = search seeing_again

pub returns : goal.returns
returns c = search seeing_all
