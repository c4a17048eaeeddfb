-- Whether there is a table to take samples from. Assumes nothing.
use Prim.Native.Nat.{ℕ}
use mathlib.Core.Path.{◌≡◌}
use mathlib.Core.Bool.{Bool, true, not}
use mathlib.Core.List.{List}
use Rattle.second_reading.specs.FromTable.{has_sheets, table_for}

-- where one is handed in
pub where_handed : (h b : Bool) (fs : List (List ℕ)) → h ≡ true → b ≡ has_sheets fs → not b ≡ table_for h fs
where_handed h b fs p q = rw (p, q)
