-- What the arrays say, in range or past their end. Assumes nothing.
use Prim.Native.Nat.{ℕ, ◌-◌}
use mathlib.Core.Path.{◌≡◌}
use mathlib.Core.Bool.{not}
use mathlib.Core.List.{List}
use lib.Dec.{eqb}
use lib.ListN.{get_or, get_or-map}
use Rattle.records.specs.Bound.{has}
use Rattle.join_tests.specs.Arrays.{is_bound, is_picked, bound_in, picked_in, ops_in}

-- ---- a variable's mark

pub bound_at : (M : List ℕ) (v : ℕ) → has (bound_in M) v ≡ is_bound (get_or M v 0)
unfolding bound_in
bound_at M v = get_or-map is_bound M v 0

pub picked_at : (M : List ℕ) (v : ℕ) → has (picked_in M) v ≡ is_picked (get_or M v 0)
unfolding picked_in
picked_at M v = get_or-map is_picked M v 0

pub op_at_lem : (M : List ℕ) (v : ℕ) → get_or (ops_in M) v 0 ≡ get_or M v 0 - 2
unfolding ops_in
op_at_lem M v = get_or-map (λ (m : ℕ). m - 2) M v 0

pub bound_mark_lem : (M : List ℕ) (v m : ℕ) → m ≡ get_or M v 0 → not (eqb m 0) ≡ has (bound_in M) v
bound_mark_lem M v m e = rw (bound_at M v, e)
