-- An argument in decimal: the number that its digits give, where it has one at least and the number is below 2^64; else none.
use Rattle.std.specs.Prelude.{ℕ, ◌+◌, ◌-◌, ◌*◌, ◌≡◌, refl, Bool, false, List, [], ◌∷◌, map, leb, Option, Some, None}
use Rattle.base.specs.Choose.{pick}

-- the largest number below 2^64
abbrev pub largest : ℕ
largest = 0xffff_ffff_ffff_ffff

-- b is a digit, and the number that it gives behind v is below 2^64
abbrev pub fits : ℕ → ℕ → Bool
fits v b = pick (leb 48 b) (pick (leb b 57) (leb (v * 10 + (b - 48)) largest) false) false

-- the number that digits give behind those that gave v
unfoldable pub decimal_from : ℕ → List ℕ → Option ℕ
decimal_from v [] = Some v
decimal_from v (b ∷ bs) = pick (fits v b) (decimal_from (v * 10 + (b - 48)) bs) None

unfoldable pub decimal_of : List ℕ → Option ℕ
unfolding decimal_from
decimal_of [] = None
decimal_of (b ∷ bs) = decimal_from 0 (b ∷ bs)

-- ---- examples: 6, 007, the largest, one more; none, a sign, a letter

pub examples : map decimal_of ((54 ∷ []) ∷ (48 ∷ 48 ∷ 55 ∷ []) ∷ (49 ∷ 56 ∷ 52 ∷ 52 ∷ 54 ∷ 55 ∷ 52 ∷ 52 ∷ 48 ∷ 55 ∷ 51 ∷ 55 ∷ 48 ∷ 57 ∷ 53 ∷ 53 ∷ 49 ∷ 54 ∷ 49 ∷ 53 ∷ []) ∷ (49 ∷ 56 ∷ 52 ∷ 52 ∷ 54 ∷ 55 ∷ 52 ∷ 52 ∷ 48 ∷ 55 ∷ 51 ∷ 55 ∷ 48 ∷ 57 ∷ 53 ∷ 53 ∷ 49 ∷ 54 ∷ 49 ∷ 54 ∷ []) ∷ [] ∷ (43 ∷ 54 ∷ []) ∷ (54 ∷ 97 ∷ []) ∷ [])
    ≡ Some 6 ∷ Some 7 ∷ Some largest ∷ None ∷ None ∷ None ∷ None ∷ []
unfolding decimal_of
examples = refl
