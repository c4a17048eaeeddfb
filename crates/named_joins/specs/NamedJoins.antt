-- All tests of a run: what the code answers. x is the plan's sheet, y the table's.
use Rattle.std.specs.Prelude.{ℕ, ◌≡◌, List, Result, Ok}
use Rattle.frames.specs.Sheet.{frames_in}
use Rattle.modes.specs.Running.{Mode}
use Rattle.table_tests.specs.Tables.{table_in}
use Rattle.table_tests.specs.Validation.{tests_with}
use Rattle.table_tests.specs.Refusal.{Refusal}
use Rattle.table_tests.specs.Shapes.{verdict}

-- the verdict, and where it passes the classes of the globals
pub record ValidatedWith (x y : List ℕ) (md : Mode) (r : Result (Unit {0}) Refusal) (G : List ℕ) : Type 0 where
  pub is : verdict r ≡ tests_with (frames_in x) (frames_in y) md
  pub globals : r ≡ Ok tt → G ≡ (table_in (frames_in y)).globals
