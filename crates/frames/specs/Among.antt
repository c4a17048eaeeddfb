-- Whether one of the frames is of some kinds.
use Rattle.std.specs.Prelude.{ℕ, Bool, true, false, List, [], ◌∷◌, get_or, leb}
use Rattle.kinds.specs.Choose.{pick}

abbrev pub is_between : ℕ → ℕ → ℕ → Bool
is_between low high b = pick (leb low b) (leb b high) false

-- one of the frames is of the kinds from `low` to `high`, wherever it stands
unfoldable pub has_kinds : ℕ → ℕ → List (List ℕ) → Bool
has_kinds low high [] = false
has_kinds low high (f ∷ fs) = pick (is_between low high (get_or f 0 0)) true (has_kinds low high fs)
