-- The first new row, by a frame 33 that is found. Assumes nothing.
use Prim.Native.Nat.{ℕ}
use mathlib.Core.Path.{◌≡◌}
use mathlib.Core.List.{List, [], ◌∷◌}
use native.Mathlib.Omega.{arith}
use Rattle.frames.specs.Kinds.{kind_at}
use Rattle.indexing.specs.Index.{Proper}
use Rattle.indexing.specs.Keys.{find}
use Rattle.running.specs.Tables.{row_from}

pub new_proper : Proper (0x33 ∷ [])
unfolding kind_at
new_proper = record { keyed = omega arith; whole = omega arith }

pub row_found : (l : List ℕ) (fs : List (List ℕ)) (n r : ℕ) → l ≡ find (0x33 ∷ []) fs → r ≡ row_from l n → r ≡ row_from (find (0x33 ∷ []) fs) n
row_found l fs n r p q = rw p at q
