-- A frame's items, read one after another. Assumes nothing.
use Rattle.std.specs.Prelude.{ℕ, zero, suc, ◌+◌, List, [], ◌∷◌}

-- "`n` counts the items after it": n items of width w from byte i on
unfoldable pub items_at : {X : Type 0} → (List ℕ → ℕ → X) → ℕ → List ℕ → ℕ → ℕ → List X
items_at read w f i zero = []
items_at read w f i (suc n) = read f i ∷ items_at read w f (i + w) n

-- each element has P
abbrev pub Each : {X : Type 0} → (X → Type 0) → List X → Type 0
Each P [] = Unit {0}
Each P (x ∷ l) = P x × Each P l
