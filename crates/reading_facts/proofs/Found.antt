-- A frame that is found stands among the frames, and begins with the key. Assumes nothing.
use Prim.Native.Nat.{ℕ, suc, ◌<◌}
use mathlib.Core.Path.{◌≡◌, refl}
use mathlib.Core.Bool.{Bool, true, false}
use mathlib.Core.List.{List, [], ◌∷◌}
use native.Mathlib.Omega.{arith}
use lib.ListN.{length, get_or}
use lib.Dec.{eqb}
use borrow.Author.Tests.{eqb-true}
use Rattle.reading.specs.Choose.{pick}
use Rattle.reading.proofs.ChooseLaws.{both_hold}
use Rattle.reading.specs.Keys.{begins, find, is_found}

no_truth : false ≡ true → ⊥
no_truth e = let y : ◌≡◌ {A = ℕ} 0 1 = cc in omega arith

-- the key's first byte
pub begun_kind : (b : ℕ) (k f : List ℕ) → begins (b ∷ k) f ≡ true → b ≡ get_or f 0 0
unfolding begins
begun_kind b k [] h = absurd (no_truth h)
begun_kind b k (d ∷ f) h = eqb-true b d (both_hold (eqb b d) (begins k f) h).0

pub record FoundAt (key : List ℕ) (fs : List (List ℕ)) : Type 0 where
  pub at : ℕ
  pub within : at < length fs
  pub is : find key fs ≡ get_or fs at []
  pub begun : begins key (get_or fs at []) ≡ true

pub found_at : (key : List ℕ) (fs : List (List ℕ)) → is_found (find key fs) ≡ true → FoundAt key fs
unfolding find
found_at key [] h = absurd (no_truth h)
found_at key (f ∷ fs) h = by (begins key f) refl h (found_at key fs)
  where
    by : (b : Bool) → begins key f ≡ b → is_found (pick b f (find key fs)) ≡ true → (is_found (find key fs) ≡ true → FoundAt key fs) → FoundAt key (f ∷ fs)
    by true e h k = record { at = 0; within = omega arith; is = rw e; begun = e }
    by false e h k = let r = k h in record { at = suc r.at; within = omega (arith, r.within); is = rw e r.is; begun = r.begun }
