-- The rows of a table are what its reading counts. Proved by induction over the frames.
use Prim.Native.Nat.{ℕ, ◌+◌}
use mathlib.Core.Path.{◌≡◌}
use mathlib.Core.Bool.{Bool, true, false}
use mathlib.Core.List.{List, [], ◌∷◌}
use native.Mathlib.Omega.{arith}
use lib.ListN.{length, get_or}
use Rattle.model.specs.Choose.{pick}
use Rattle.reading.specs.Faults.{is_row}
use Rattle.reading.specs.Text.TheVariants.{Table}
use Rattle.reading.proofs.Formed.{count_from}
use Rattle.records.specs.Rows.{row_of, rows_in}

pub rows_counted : (fs : List (List ℕ)) (c : ℕ) → count_from Table c fs ≡ c + length (rows_in fs)
unfolding rows_in
rows_counted [] c = omega arith
rows_counted (f ∷ fs) c = by (is_row (get_or f 0 0)) (rows_counted fs)
  where
    by : (b : Bool) → ((d : ℕ) → count_from Table d fs ≡ d + length (rows_in fs)) → count_from Table (pick b (c + 1) c) fs ≡ c + length (pick b (row_of f ∷ rows_in fs) (rows_in fs))
    by true r = let h = r (c + 1) in omega arith
    by false r = r c
