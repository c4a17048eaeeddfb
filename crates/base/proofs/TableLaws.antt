-- A rule of a table of numbers, proved at all of its entries by one test that is computed, one entry after the other.
use mathlib.Core.Path.{◌≡◌, ◌∙◌, subst, sym}
use mathlib.Core.Bool.{Bool, true, false, ◌&&◌}
use mathlib.Core.List.{List, [], ◌∷◌}
use Prim.Native.Nat.{ℕ, zero, suc, ◌+◌, ◌<◌}
use native.Mathlib.Nat.{add-zero, zero-add, add-suc, suc-add, le_of_suc-le-suc, not-suc-le-zero}
use lib.Dec.{T, eqb, eqb→eq}
use lib.ListN.{length, get_or}

-- the entries are those of f, from the place i on
abbrev pub tabulates : (ℕ → ℕ) → ℕ → List ℕ → Bool
tabulates f i [] = true
tabulates f i (x ∷ xs) = eqb x (f i) && tabulates f (suc i) xs

pub both_left : (a b : Bool) → T (a && b) → T a
both_left true b t = tt
both_left false b t = t

pub both_right : (a b : Bool) → T (a && b) → T b
both_right true b t = t
both_right false b t = absurd t

from : (f : ℕ → ℕ) (xs : List ℕ) (i : ℕ) → T (tabulates f i xs) → (k : ℕ) → k < length xs → T (eqb (get_or xs k 0) (f (i + k)))
from f [] i t k h = absurd (not-suc-le-zero h)
from f (x ∷ xs) i t zero h = subst (λ (m : ℕ). T (eqb x (f m))) (sym (add-zero i)) (both_left (eqb x (f i)) (tabulates f (suc i) xs) t)
from f (x ∷ xs) i t (suc k) h =
    subst (λ (m : ℕ). T (eqb (get_or xs k 0) (f m))) (suc-add i k ∙ sym (add-suc i k))
    (from f xs (suc i) (both_right (eqb x (f i)) (tabulates f (suc i) xs) t) k (le_of_suc-le-suc h))

-- the entry at k is f k
pub entry : (f : ℕ → ℕ) (xs : List ℕ) → T (tabulates f 0 xs) → (k : ℕ) → k < length xs → get_or xs k 0 ≡ f k
entry f xs t k h = subst (λ (m : ℕ). get_or xs k 0 ≡ f m) (zero-add k) (eqb→eq (get_or xs k 0) (f (zero + k)) (from f xs 0 t k h))
