-- A frame's items, one after another behind its fields, tested one by one. Proved by induction over the items.
use Prim.Native.Nat.{ℕ, ◌+◌}
use mathlib.Core.Path.{◌≡◌, refl, sym, ◌∙◌, ap}
use mathlib.Core.Bool.{Bool, true}
use mathlib.Core.List.{List, [], ◌∷◌, ◌++◌, flat_map, append_assoc}
use lib.ListN.{length, replicate, length-append}
use Rattle.records.specs.Fields.{width}
use Rattle.records.specs.Frames.{pass_all}
use Rattle.records.specs.Field.{Field}
use Rattle.records.specs.Items.{Each}

-- each item passes a test where its bytes do, whatever stands around them
pub items_pass : {X : Type 0} (g : X → List ℕ) (P : Field → List ℕ → ℕ → Bool) (t : Field) (Q : X → Type 0) → ((x : X) → length (g x) ≡ width t) → ((x : X) → Q x → (p q : List ℕ) → P t (p ++ (g x ++ q)) (length p) ≡ true)
    → (xs : List X) → Each Q xs → (p : List ℕ) → pass_all P (replicate (length xs) t) (p ++ flat_map g xs) (length p) ≡ true
unfolding flat_map pass_all
items_pass g P t Q wide r [] h p = refl
items_pass g P t Q wide r (x ∷ xs) h p =
    let e : p ++ (g x ++ flat_map g xs) ≡ (p ++ g x) ++ flat_map g xs = sym (append_assoc p (g x) (flat_map g xs)) in
    let l : length p + width t ≡ length (p ++ g x) = sym (length-append p (g x) ∙ ap (λ (m : ℕ). length p + m) (wide x)) in
    rw (r x h.0 p (flat_map g xs), l, e, items_pass g P t Q wide r xs h.1 (p ++ g x))
