-- What is asked of a row, by its variable's mark. Assumes nothing.
use Prim.Native.Nat.{ℕ, ◌-◌, ◌<◌}
use mathlib.Core.Path.{◌≡◌, refl}
use mathlib.Core.Bool.{Bool, true, false}
use mathlib.Core.List.{List}
use lib.Dec.{ltb}
use lib.ListN.{get_or}
use native.Mathlib.Omega.{arith}
use native.Mathlib.Decide.{dec_lt}
use borrow.Author.Tests.{ne_eqb, le-ltb}
use Rattle.hexadecimal.specs.Choose.{pick}
use Rattle.join_tests.specs.Bound.{Bound, has}
use Rattle.join_tests.specs.Refusing.{op_at}
use Rattle.join_tests.specs.Arrays.{is_bound, bound_in, picked_in, ops_in}
use Rattle.join_tests.proofs.ArrayLaws.{bound_at, picked_at, op_at_lem}
use Rattle.step_tests.specs.Steps.{meets_bound, row_read}

module _ (M : List ℕ) (v m : ℕ) (e : m ≡ get_or M v 0) where
  -- a row that was picked is bound
  pub row_mark : ltb 1 m ≡ row_read (bound_in M) (picked_in M) v
  row_mark = rw (bound_at M v, picked_at M v, ← e) (by (dec_lt 1 m))
    where
      by : Dec (1 < m) → ltb 1 m ≡ pick (is_bound m) (ltb 1 m) false
      by (yes h) = rw (ne_eqb m 0 (λ z. omega arith))
      by (no h) = rw (le-ltb 1 m (omega arith)) (none (is_bound m))
        where
          none : (t : Bool) → false ≡ pick t false false
          none true = refl
          none false = refl

  pub op_some : m - 2 ≡ op_at (ops_in M) v
  op_some = rw (op_at_lem M v, ← e)

module _ (B : Bound) (v : ℕ) (w b : Bool) (e : b ≡ has B v) where
  pub meets_bound_lem : w ≡ true → b ≡ meets_bound B v w
  meets_bound_lem h = rw (h, e)
