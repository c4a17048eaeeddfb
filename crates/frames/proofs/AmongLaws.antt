-- The kinds of a sheet's frames, frame by frame. Assumes nothing.
use Prim.Native.Nat.{ℕ}
use mathlib.Core.Path.{◌≡◌, sym, ◌∙◌}
use mathlib.Core.Bool.{Bool, true, false}
use mathlib.Core.List.{List, [], ◌∷◌}
use lib.ListN.{get_or}
use Rattle.kinds.specs.Choose.{pick}
use Rattle.frames.specs.Among.{is_between, has_kinds}

-- where those of `all` before fs are of other kinds
module _ (low high : ℕ) (all fs : List (List ℕ)) (q : has_kinds low high all ≡ has_kinds low high fs) where
  pub kinds_end : fs ≡ [] → false ≡ has_kinds low high all
  unfolding has_kinds
  kinds_end z = sym (q ∙ rw z)

  module _ (f : List ℕ) (gs : List (List ℕ)) (step : fs ≡ f ∷ gs) (k : ℕ) (p : k ≡ get_or f 0 0) (b : Bool) (e : b ≡ is_between low high k) where
    here : has_kinds low high all ≡ pick b true (has_kinds low high gs)
    unfolding has_kinds
    here = q ∙ rw (step, ← p, ← e)

    pub kinds_found : b ≡ true → true ≡ has_kinds low high all
    kinds_found t = sym (here ∙ rw t)

    pub kinds_again : b ≡ false → has_kinds low high all ≡ has_kinds low high gs
    kinds_again t = here ∙ rw t
