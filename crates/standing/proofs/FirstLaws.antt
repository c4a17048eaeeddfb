-- The rows that stand with one row more. Assumes nothing.
use Prim.Native.Nat.{ℕ, ◌<◌, ◌≤◌}
use mathlib.Core.Path.{◌≡◌, refl, sym, ◌∙◌, ap}
use mathlib.Core.Bool.{Bool, true, false}
use mathlib.Core.List.{List, [], ◌∷◌, ◌++◌, append-nil}
use native.Mathlib.Omega.{arith}
use lib.ListN.{length, take, length-append}
use lib.Seq.{take_all, take-append-le}
use lib.Dec.{leb}
use borrow.Author.Tests.{leb-true, leb-false}
use Rattle.records.specs.Atoms.{Row}
use Rattle.records.specs.Firsts.{is_among, firsts_from, firsts}
use Rattle.records.proofs.FirstLaws.{firsts_append}
use Rattle.records.specs.Leaders.{same_row}

module _ (l : List Row) (x : Row) where
  pub firsts_old : is_among same_row x (firsts same_row l) ≡ true → firsts same_row (l ++ x ∷ []) ≡ firsts same_row l
  unfolding firsts_from
  firsts_old h = firsts_append same_row [] l (x ∷ []) ∙ rw h (append-nil (firsts same_row l))

  pub firsts_new : is_among same_row x (firsts same_row l) ≡ false → firsts same_row (l ++ x ∷ []) ≡ firsts same_row l ++ x ∷ []
  unfolding firsts_from
  firsts_new h = firsts_append same_row [] l (x ∷ []) ∙ rw h

  -- of the rows of the numbers below n
  abbrev below : ℕ → List Row → ℕ
  below n l = length (firsts same_row (take n l))

  pub below_behind : (n : ℕ) → n ≤ length l → below n (l ++ x ∷ []) ≡ below n l
  below_behind n h = ap (λ (k : List Row). length (firsts same_row k)) (take-append-le n l (x ∷ []) h)

  pub below_before : (n : ℕ) → length l < n → below n (l ++ x ∷ []) ≡ length (firsts same_row (l ++ x ∷ []))
  below_before n h = ap (λ (k : List Row). length (firsts same_row k)) (take_all n (l ++ x ∷ []) (omega (arith, length-append l (x ∷ []))))

  pub below_old : (n : ℕ) → is_among same_row x (firsts same_row l) ≡ true → below n (l ++ x ∷ []) ≡ below n l
  below_old n h = by (leb n (length l)) refl
    where
      by : (b : Bool) → leb n (length l) ≡ b → below n (l ++ x ∷ []) ≡ below n l
      by true e = below_behind n (leb-true n (length l) e)
      by false e =
          let g = leb-false n (length l) e in
          below_before n (omega arith) ∙ ap length (firsts_old h) ∙ ap (λ (k : List Row). length (firsts same_row k)) (sym (take_all n l (omega arith)))
