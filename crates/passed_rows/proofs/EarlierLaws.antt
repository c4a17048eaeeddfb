-- A row is passed over where an earlier row is equal by leaders. Proved from the first of each.
use Prim.Native.Nat.{ℕ, ◌+◌, ◌<◌}
use mathlib.Core.Path.{◌≡◌, refl, sym, ap, ◌∙◌}
use mathlib.Core.Logic.{◌⊎◌, inl, inr}
use mathlib.Core.Bool.{Bool, true, false, ◌||◌, or-true}
use mathlib.Core.List.Memᴰ
use mathlib.Core.List.{List, [], ◌∷◌, ◌++◌, Memᴰ}
use native.Mathlib.Numerals.{add-one}
use native.Mathlib.Omega.{arith}
use lib.Dec.{eqb}
use lib.ListN.{length, get_or, take, length-append, length-map}
use lib.Seq.{take-suc}
use borrow.Author.Tests.{eq-eqb, ne_eqb}
use Rattle.standing.specs.Atoms.{Row}
use Rattle.standing.specs.Firsts.{is_among, firsts}
use Rattle.standing.proofs.Bools.{true_false, either, bool_ext}
use Rattle.standing.proofs.ModelFirstLaws.{first_mem, mem_first}
use Rattle.standing.specs.Leaders.{leader_in, led_row, led_rows, same_row, standing_below}
use Rattle.standing.specs.Rows.{rows_in}
use Rattle.standing.proofs.RowFrames.{equal_rows}
use Rattle.standing.proofs.FirstLaws.{firsts_old, firsts_new}
use Rattle.passed_rows.specs.Passed.{is_passed}

-- ---- a row is among others where it is one of them

among_mem : (x : Row) (l : List Row) → is_among same_row x l ≡ true → Memᴰ x l
unfolding is_among
among_mem x [] h = true_false h refl
among_mem x (y ∷ l) h = by (either (same_row x y) (is_among same_row x l) h) (among_mem x l)
  where
    by : (same_row x y ≡ true) ⊎ (is_among same_row x l ≡ true) → (is_among same_row x l ≡ true → Memᴰ x l) → Memᴰ x (y ∷ l)
    by (inl e) f = Memᴰ.head (equal_rows.is x y e)
    by (inr e) f = Memᴰ.tail (f e)

mem_among : (x : Row) (l : List Row) → Memᴰ x l → is_among same_row x l ≡ true
unfolding is_among
mem_among x [] m = absurd (Memᴰ.not-nil m)
mem_among x (y ∷ l) m = by (Memᴰ.cases_cons m) (mem_among x l)
  where
    by : (x ≡ y) ⊎ Memᴰ x l → (Memᴰ x l → is_among same_row x l ≡ true) → (same_row x y || is_among same_row x l) ≡ true
    by (inl e) f = ap (λ b. b || is_among same_row x l) (ap (same_row x) (sym e) ∙ equal_rows.self x)
    by (inr n) f = ap (λ b. same_row x y || b) (f n) ∙ or-true (same_row x y)

among_firsts : (x : Row) (l : List Row) → is_among same_row x (firsts same_row l) ≡ is_among same_row x l
unfolding is_among
among_firsts x l =
    bool_ext (is_among same_row x (firsts same_row l)) (is_among same_row x l)
    (λ h. mem_among x l (first_mem same_row equal_rows [] l x (among_mem x (firsts same_row l) h)))
    (λ h. mem_among x (firsts same_row l) (mem_first same_row equal_rows [] l x (among_mem x l h) refl))

-- ---- one row more

one_more : (l : List Row) (x : Row) → eqb (length (firsts same_row (l ++ x ∷ []))) (length (firsts same_row l)) ≡ is_among same_row x (firsts same_row l)
one_more l x = by (is_among same_row x (firsts same_row l)) refl
  where
    by : (b : Bool) → is_among same_row x (firsts same_row l) ≡ b → eqb (length (firsts same_row (l ++ x ∷ []))) (length (firsts same_row l)) ≡ b
    by true h = eq-eqb _ _ (ap length (firsts_old l x h))
    by false h = let e = ap length (firsts_new l x h) in ne_eqb (length (firsts same_row (l ++ x ∷ []))) (length (firsts same_row l)) (λ g. omega (arith, e, length-append (firsts same_row l) (x ∷ [])))

led_many : (fs : List (List ℕ)) → length (led_rows fs) ≡ length (rows_in fs)
unfolding led_rows
led_many fs = length-map (rows_in fs) (led_row (leader_in fs))

-- "Rows equal by leaders but not by number: the first stands, later ones are passed over"
pub passed_equal : (fs : List (List ℕ)) (n : ℕ) (r : Row) → n < length (rows_in fs) → is_passed n fs ≡ is_among same_row (get_or (led_rows fs) n r) (take n (led_rows fs))
unfolding standing_below
passed_equal fs n r h = ap (λ (l : List Row). eqb (length (firsts same_row l)) (length (firsts same_row (take n (led_rows fs))))) more ∙ one_more (take n (led_rows fs)) (get_or (led_rows fs) n r) ∙ among_firsts (get_or (led_rows fs) n r) (take n (led_rows fs))
  where
    more : take (n + 1) (led_rows fs) ≡ take n (led_rows fs) ++ get_or (led_rows fs) n r ∷ []
    more = rw (add-one n) (take-suc (led_rows fs) n r (omega (arith, led_many fs)))
