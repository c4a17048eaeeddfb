-- The tests for equality say that things are equal. Proved by cases and by induction over the list.
use mathlib.Core.Path.{◌≡◌, refl, sym, ap, subst}
use Prim.Native.Nat.{ℕ}
use mathlib.Core.Bool.{Bool, true}
use mathlib.Core.Option.{Option, none, some}
use mathlib.Core.List.{List, [], ◌∷◌}
use lib.Dec.{T, eqb}
use borrow.Author.Tests.{eqb-true, eq-eqb}
use Rattle.model.proofs.Bools.{both, first, second}
use Rattle.model.specs.Equality.{same_class, same_list, same_option}

pub same_eq : (a b : ℕ) → same_class a b ≡ true → a ≡ b
unfolding same_class
same_eq a b h = eqb-true a b h

pub eq_same : (a b : ℕ) → a ≡ b → same_class a b ≡ true
unfolding same_class
eq_same a b h = eq-eqb a b h

-- a test that is equality
pub record Equals {A : Type 0} (same : A → A → Bool) : Type 0 where
  pub is : (a b : A) → same a b ≡ true → a ≡ b
  pub self : (a : A) → same a a ≡ true

pub equal_numbers : Equals eqb
equal_numbers = record { is = eqb-true; self = λ a. eq-eqb a a refl }

pub equal_classes : Equals same_class
equal_classes = record { is = same_eq; self = λ a. eq_same a a refl }

module _ {A : Type 0} (same : A → A → Bool) (w : Equals same) where
  list_is : (xs ys : List A) → same_list same xs ys ≡ true → xs ≡ ys
  unfolding same_list
  list_is [] [] h = refl
  list_is [] (y ∷ ys) h = absurd (subst T (sym h) tt)
  list_is (x ∷ xs) [] h = absurd (subst T (sym h) tt)
  list_is (x ∷ xs) (y ∷ ys) h = let p = w.is x y (first (same x y) _ h) in let q = list_is xs ys (second (same x y) _ h) in cc

  list_self : (xs : List A) → same_list same xs xs ≡ true
  unfolding same_list
  list_self [] = refl
  list_self (x ∷ xs) = both (w.self x) (list_self xs)

  option_is : (a b : Option A) → same_option same a b ≡ true → a ≡ b
  unfolding same_option
  option_is none none h = refl
  option_is none (some y) h = absurd (subst T (sym h) tt)
  option_is (some x) none h = absurd (subst T (sym h) tt)
  option_is (some x) (some y) h = ap {B = Option A} some (w.is x y h)

  option_self : (a : Option A) → same_option same a a ≡ true
  unfolding same_option
  option_self none = refl
  option_self (some x) = w.self x

  pub equal_lists : Equals (same_list same)
  equal_lists = record { is = list_is; self = list_self }

  pub equal_options : Equals (same_option same)
  equal_options = record { is = option_is; self = option_self }
