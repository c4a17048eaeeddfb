-- The rows of a table that are passed over.
use Rattle.std.specs.Prelude.{ℕ, ◌+◌, Bool, List, eqb}
use Rattle.standing.specs.Leaders.{standing_below}

-- "the first stands, later ones are passed over": with row n no more rows stand than before it
abbrev pub is_passed : ℕ → List (List ℕ) → Bool
is_passed n fs = eqb (standing_below (n + 1) fs) (standing_below n fs)
