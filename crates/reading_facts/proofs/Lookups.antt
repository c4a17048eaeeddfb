-- Search by key: what is found is a frame of the text that begins with the key. Assumes nothing.
use Prim.Native.Nat.{ℕ, suc, ◌<◌}
use mathlib.Core.Path.{◌≡◌, refl}
use mathlib.Core.Bool.{Bool, true, false}
use mathlib.Core.List.{List, [], ◌∷◌}
use native.Mathlib.Omega.{arith}
use lib.ListN.{length, get_or}
use Rattle.reading.specs.Choose.{pick}
use Rattle.reading.specs.Keys.{begins, find, is_found}

-- what is found stands in the text
pub record Place (key : List ℕ) (fs : List (List ℕ)) : Type 0 where
  pub at : ℕ
  pub within : at < length fs
  pub is : find key fs ≡ get_or fs at []
  pub begun : begins key (get_or fs at []) ≡ true

pub find_some : (key : List ℕ) (fs : List (List ℕ)) → is_found (find key fs) ≡ true → Place key fs
unfolding find
find_some key [] p = let z : ◌≡◌ {A = ℕ} 0 1 = cc in absurd (omega arith)
find_some key (f ∷ fs) p = go (begins key f) refl (find_some key fs) p
  where
    later : begins key f ≡ false → Place key fs → Place key (f ∷ fs)
    later q r = record { at = suc r.at; within = omega (arith, r.within); is = rw q r.is; begun = r.begun }

    go : (a : Bool) → begins key f ≡ a → (is_found (find key fs) ≡ true → Place key fs) → is_found (pick a f (find key fs)) ≡ true → Place key (f ∷ fs)
    go true q more r = record { at = 0; within = omega arith; is = rw q; begun = q }
    go false q more r = later q (more r)
