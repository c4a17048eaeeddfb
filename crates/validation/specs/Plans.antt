-- A plan's steps in turn, and the whole: what the code asks and leaves. x is the plan's sheet, y the table's.
use Rattle.std.specs.Prelude.{ℕ, ◌≡◌, List, Result, Ok}
use Rattle.frames.specs.Sheet.{frames_in}
use Rattle.join_tests.specs.Text.TheVariants.{Plan}
use Rattle.join_tests.specs.First.{Sheet}
use Rattle.join_tests.specs.FirstReadingReading.{Accepted}
use Rattle.join_tests.specs.Second.{reading}
use Rattle.join_tests.specs.Atoms.{Table}
use Rattle.table_tests.specs.Tables.{table_in, steps_in}
use Rattle.step_tests.specs.Validation.{steps_pass, tests_in}
use Rattle.step_tests.specs.Steps.{Described}
use Rattle.table_tests.specs.Refusal.{Refusal}
use Rattle.table_tests.specs.Shapes.{verdict}

-- x is the sheet of an accepted plan text
pub record PlanSheet (x : List ℕ) : Type 0 where
  pub p : List ℕ
  pub lines : ℕ
  pub counted : ℕ
  pub accepted : reading Plan p ≡ Accepted lines counted
  pub sheet : Sheet p x

-- with arrays that speak of some table
pub record PlanReady (x F G : List ℕ) : Type 0 where
  pub plan : PlanSheet x
  pub table : Table
  pub described : Described table F G

-- the verdict on the steps of x, over any table that F and G speak of
pub record StepsTested (x F G : List ℕ) (r : Result (Unit {0}) Refusal) : Type 0 where
  pub is : (tb : Table) → Described tb F G → verdict r ≡ steps_pass tb (steps_in (frames_in x))

-- the whole: the verdict, and where it passes the classes of the globals
pub record Validated (x y : List ℕ) (r : Result (Unit {0}) Refusal) (G : List ℕ) : Type 0 where
  pub is : verdict r ≡ tests_in (frames_in x) (frames_in y)
  pub globals : r ≡ Ok tt → G ≡ (table_in (frames_in y)).globals
