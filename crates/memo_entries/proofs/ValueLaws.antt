-- The value that an entry has. Proved by its last bit.
use Rattle.std.specs.Prelude.{Some, None}
use Prim.Native.Nat.{ℕ, ◌%◌, ◌<◌}
use mathlib.Core.Path.{◌≡◌, ap}
use mathlib.Core.List.{List}
use lib.ListN.{length, get_or}
use lib.Ieee.{Float}
use borrow.Author.Tests.{eq-eqb, ne_eqb}
use Rattle.measure.proofs.Lists.{any_default}
use Rattle.measure.specs.Selectivity.{zero64}
use Rattle.plan_facts.specs.Memo.{has_value}
use Rattle.plan_facts.specs.Costs.{or_measured}
use Rattle.memo_entries.specs.Remembered.{memo_value}

module _ (ks : List ℕ) (xs : List Float) (i : ℕ) where
  pub value_there : (d : Float) → i < length xs → get_or ks i 0 % 2 ≡ 1 → Some (get_or xs i d) ≡ or_measured (memo_value (has_value (get_or ks i 0)) (get_or xs i zero64)) None
  value_there d l h = rw (eq-eqb (get_or ks i 0 % 2) 1 h) (ap Some (any_default xs i d zero64 l))

  pub no_value : (get_or ks i 0 % 2 ≡ 1 → ⊥) → None ≡ or_measured (memo_value (has_value (get_or ks i 0)) (get_or xs i zero64)) None
  no_value h = rw (ne_eqb (get_or ks i 0 % 2) 1 h)
