-- `join_tests::arrays::is_bound` meets its contract: by the mark.
use Rattle.join_tests.proofs.ArrayLaws.{bound_mark_lem}
use Rattle.join_tests.proofs.arrays.is_bound.Goals as goal

pub returns : goal.returns
returns c = search bound_mark_lem
