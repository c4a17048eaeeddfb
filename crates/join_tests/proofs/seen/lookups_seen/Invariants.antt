-- `join_tests::seen::lookups_seen` meets its contract: those left give the rest.
use Rattle.join_tests.proofs.LookupLaws.{Seeing}
use Rattle.join_tests.specs.Arrays.{bound_in}
use Rattle.join_tests.proofs.seen.lookups_seen.Given as goal

abbrev pub invariant-loop-k : goal.invariant-loop-k
invariant-loop-k l = Seeing (bound_in l.marks) l.globals l.frame l.target l.n l.k l.s
