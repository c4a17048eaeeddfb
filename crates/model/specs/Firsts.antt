-- The first of each, in a list in which some are equal. Assumes nothing.
use Rattle.std.specs.Prelude.{Bool, false, ◌||◌, List, [], ◌∷◌, ◌++◌}
use Rattle.set_model.specs.Choose.{pick}

module _ {A : Type 0} (same : A → A → Bool) where
  unfoldable pub is_among : A → List A → Bool
  is_among x [] = false
  is_among x (y ∷ ys) = same x y || is_among x ys

  -- those that equal none before them, nor one of those seen before
  unfoldable pub firsts_from : List A → List A → List A
  firsts_from seen [] = []
  firsts_from seen (x ∷ l) = pick (is_among x seen) (firsts_from seen l) (x ∷ firsts_from (seen ++ x ∷ []) l)

  abbrev pub firsts : List A → List A
  firsts l = firsts_from [] l
