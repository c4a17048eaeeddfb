-- What a step leaves in the marks of variables.
use Rattle.std.specs.Prelude.{ℕ, ◌<◌, ◌≤◌, ◌≡◌, Bool, true, List, length, get_or, eqb}
use Rattle.hexadecimal.specs.Choose.{pick}
use Rattle.fields.specs.Limits.{variables_most}
use Rattle.join_tests.specs.Reading.{bound_by, picked_by}
use Rattle.join_tests.specs.Refusing.{join_op, runnable, ops_by}
use Rattle.step_tests.specs.StepFrames.{step_of}
use Rattle.join_tests.specs.Arrays.{bound_in, picked_in, ops_in}
use Rattle.join_tests.specs.RecordsLookups.{lookups_of}

-- 41 ExtractChild, 45 BindGlobal and 46 CopyBinding bind their target
abbrev pub binds_target : ℕ → Bool
binds_target k = pick (eqb k 0x41) true (pick (eqb k 0x45) true (eqb k 0x46))

-- the mark of a variable that is bound: a row that was picked stays
abbrev pub bound_mark : ℕ → ℕ
bound_mark m = pick (eqb m 0) 1 m

-- a frame 40 to 46 has a variable first, which is below 64
pub record Targeted (f : List ℕ) : Type 0 where
  pub below : 0x40 ≤ get_or f 0 0 → get_or f 0 0 ≤ 0x46 → get_or f 1 0 < variables_most

-- the frame f of a step that is run; o is its operator, if it is a Join
pub record Markable (f : List ℕ) (o : ℕ) (M : List ℕ) : Type 0 where
  pub runs : runnable (step_of f) ≡ true
  pub op : get_or f 0 0 ≡ 0x40 → o ≡ join_op (lookups_of f)
  pub target : Targeted f
  pub size : length M ≡ variables_most

-- behind the step of f
pub record Stepped (f M N : List ℕ) : Type 0 where
  pub bound : bound_in N ≡ bound_by (step_of f) (bound_in M)
  pub picked : picked_in N ≡ picked_by (step_of f) (picked_in M)
  pub ops : ops_in N ≡ ops_by (step_of f) (ops_in M)
  pub size : length N ≡ variables_most
