-- The turn of one row: passed over, or entered. Assumes nothing.
use Prim.Native.Nat.{ℕ}
use mathlib.Core.Path.{◌≡◌, refl}
use mathlib.Core.Bool.{Bool, true, false}
use mathlib.Core.List.{List}
use lib.ListN.{length, take}
use Rattle.indexing.specs.Index.{slots_for, given_by, noted}
use Rattle.standing.specs.Stands.{part_of, Turned}

module _ (o : List ℕ) (e b : ℕ) (t : List ℕ) (m : ℕ) (r : Bool) (p : r ≡ given_by (slots_for (length t)) (take e o) t (part_of o e b)) where
  pub turn_passed : r ≡ true → Turned o e b t m t true
  turn_passed h = record { passed = rw h at p; entered = refl }

  pub turn_entered : r ≡ false → (t' : List ℕ) → t' ≡ noted (slots_for (length t)) t (part_of o e b) e m → Turned o e b t m t' false
  turn_entered h t' q = record { passed = rw h at p; entered = q }
