-- A run over a table text: what its arrays need, and the tests.
use Rattle.std.specs.Prelude.{ℕ, ◌+◌, ◌*◌, ◌/◌, ◌<◌, ◌≤◌, List, length}
use Rattle.frame_tests.specs.Limits.{text_most, rows_most}
use Rattle.reading.specs.Kinds.{table}
use Rattle.first_reading.specs.First.{frames_of}
use Rattle.frame_tests.specs.declared.tests.Text.TheVariants.{Table as TableText}
use Rattle.reading.specs.Second.{reading}
use Rattle.reading.specs.IndexedReading.{Lent}
use Rattle.modes.specs.Running.{Mode}
use Rattle.sheet_run.specs.Chains.{links_at}
use Rattle.sheet_run.specs.Validation.{Verdict, and_then, of_reading, tests_with}

-- what is lent for the table text t: a sheet and an index too; a row's line has ten digits or more
pub record TableLent (t s i R K L : List ℕ) : Type 0 where
  pub lent : Lent t s i
  pub rows : length t ≤ text_most → (c : ℕ) → 10 * c ≤ length t → c ≤ rows_most → c ≤ length R
  pub children : length t ≤ text_most → length t / 4 ≤ length K
  pub small : length K < 65536
  pub few : length R < 65536
  pub links : links_at + 2 * length R ≤ length L

-- the tests behind the reading of the plan, whose frames are fs: the table t is read, then both are tested
abbrev pub table_tests : List (List ℕ) → List ℕ → Mode → Verdict
table_tests fs t md = and_then (of_reading table (reading TableText t)) (tests_with fs (frames_of t) md)
