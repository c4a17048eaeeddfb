-- Numbers for each variable, operator and global: M marks of variables, F shapes of operators, G classes of globals.
use Rattle.std.specs.Prelude.{ℕ, ◌+◌, ◌-◌, ◌≡◌, Bool, true, not, List, map, length, get_or, eqb, leb, ltb}
use Rattle.hexadecimal.specs.Choose.{pick}
use Rattle.records.specs.Atoms.{Row, Node, Literal, unset}
use Rattle.records.specs.Bound.{Bound}
use Rattle.records.specs.Refusing.{all_rows}

-- a variable's mark: 0 unbound, 1 bound, 2 and the operator where a Join picked its row
abbrev pub is_bound : ℕ → Bool
is_bound m = not (eqb m 0)

abbrev pub is_picked : ℕ → Bool
is_picked m = ltb 1 m

-- the variables that are bound, those that a Join picked, and the operators of their rows
unfoldable pub bound_in : List ℕ → Bound
bound_in M = map is_bound M

unfoldable pub picked_in : List ℕ → Bound
picked_in M = map is_picked M

unfoldable pub ops_in : List ℕ → List ℕ
ops_in M = map (λ (m : ℕ). m - 2) M

-- an operator's shape: 0 without a row, 1 for a literal, 2 and the number of children; "An operator without rows fits any shape."
abbrev pub fits_shape : (ℕ → Bool) → ℕ → Bool
fits_shape g s = pick (eqb s 0) true (g s)

-- of a row: a frame 31, or a frame 30 by its children
abbrev pub shape_of : Row → ℕ
shape_of (Node c o ds) = 2 + length ds
shape_of (Literal c o x) = 1

-- F says of each operator what all its rows say, of any test that goes by the shape
pub record Shaped (F : List ℕ) (rows : List Row) : Type 0 where
  pub size : length F ≡ 256
  pub is : (P : Row → Bool) (g : ℕ → Bool) → ((r : Row) → P r ≡ g (shape_of r)) → (o : ℕ) → all_rows P o rows ≡ fits_shape g (get_or F o 0)

-- every row of operator o is of a shape from r on
abbrev pub reach_fits : List ℕ → ℕ → ℕ → Bool
reach_fits F o r = fits_shape (leb r) (get_or F o 0)

-- how far a position reaches: the least shape that has a child there
abbrev pub reach_of : ℕ → ℕ
reach_of i = i + 3

-- the global g has a frame 32
abbrev pub given : List ℕ → ℕ → Bool
given G g = not (eqb (get_or G g unset) unset)
