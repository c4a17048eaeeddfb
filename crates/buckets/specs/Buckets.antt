-- The rows of a table that a planner samples from, by their numbers.
use Rattle.std.specs.Prelude.{ℕ, suc, ◌*◌, ◌/◌, ◌<◌, ◌≤◌, ◌≡◌, Bool, List, [], ◌∷◌, length, get_or, take, eqb}
use Rattle.row_frames.specs.Choose.{pick}
use Rattle.row_frames.specs.Atoms.{Row, op_of}
use Rattle.row_frames.specs.Running.{no_row}
use Rattle.row_frames.specs.Tabulate.{tabulate}
use Rattle.row_frames.specs.Items.{Each}

-- the numbers of the rows that pass a test, in order, where the first row has number i
unfoldable pub numbers_from : (Row → Bool) → ℕ → List Row → List ℕ
numbers_from p i [] = []
numbers_from p i (r ∷ rs) = let rest = numbers_from p (suc i) rs in pick (p r) (i ∷ rest) rest

-- m of n numbers: "taken at j times n over m, rounded down"
unfoldable pub strided : ℕ → List ℕ → List ℕ
strided m ns = tabulate m (λ j. get_or ns (j * length ns / m) 0)

-- how many of the numbers are those of a row of the operator o
unfoldable pub hits : List Row → ℕ → List ℕ → ℕ
hits rs o [] = 0
hits rs o (n ∷ ns) = let rest = hits rs o ns in pick (eqb (op_of (get_or rs n no_row)) o) (suc rest) rest

-- ---- room

-- there is room for m of the n numbers
pub record StrideRoom (ns : List ℕ) (n m : ℕ) (out : List ℕ) : Type 0 where
  pub many : n ≡ length ns
  pub few : m ≤ n
  pub room : m ≤ length out

-- the first m numbers are those of n rows
pub record NumbersRoom (n m : ℕ) (ns : List ℕ) : Type 0 where
  pub room : m ≤ length ns
  pub below : Each (λ j. j < n) (take m ns)
