-- The fault of a plan's step.
use Rattle.std.specs.Prelude.{ℕ, ◌≡◌, List, get_or}
use Rattle.join_tests.specs.Atoms.{Table}
use Rattle.join_tests.specs.Refusing.{join_op}
use Rattle.step_tests.specs.StepFrames.{step_of}
use Rattle.step_tests.specs.Validation.{step_fault}
use Rattle.join_tests.specs.Arrays.{bound_in, picked_in, ops_in}
use Rattle.join_tests.specs.RecordsLookups.{lookups_of}
use Rattle.join_tests.specs.declared.joins.Tested.{Tested}
use Rattle.step_tests.specs.Steps.{Described}

-- the frame f: its fault over any table that F and G speak of, and a Join's operator
pub record StepTested (F G M f : List ℕ) (r : Tested) : Type 0 where
  pub is : (tb : Table) → Described tb F G → r.fault ≡ step_fault tb (bound_in M) (picked_in M) (ops_in M) (step_of f)
  pub op : get_or f 0 0 ≡ 0x40 → r.op ≡ join_op (lookups_of f)
