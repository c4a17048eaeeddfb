-- What is in the list of the first values of a function. Proved by induction over their number.
use mathlib.Core.Path.{◌≡◌, refl, sym, ap, ◌∙◌}
use mathlib.Core.Logic.{◌⊎◌, inl, inr}
use Prim.Native.Nat.{ℕ, zero, suc, ◌<◌, ◌≤◌}
use native.Mathlib.Omega.{arith}
use mathlib.Core.List.Memᴰ
use mathlib.Core.List.{Memᴰ}
use lib.ListN.{length, get_or, get_or-eq_default}
use native.Mathlib.Decide.{dec_lt}
use native.Mathlib.Nat.{not-suc-le-zero, le_of_suc-le-suc}
use Rattle.model.specs.Tabulate.{tabulate}

pub tabulate_at : {A : Type 0} (n : ℕ) (f : ℕ → A) (i : ℕ) (d : A) → i < n → get_or (tabulate n f) i d ≡ f i
unfolding tabulate
tabulate_at zero f i d h = absurd (not-suc-le-zero h)
tabulate_at (suc n) f zero d h = refl
tabulate_at (suc n) f (suc i) d h = tabulate_at n (λ k. f (suc k)) i d (le_of_suc-le-suc h)

pub tabulate_length : {A : Type 0} (n : ℕ) (f : ℕ → A) → length (tabulate n f) ≡ n
unfolding tabulate
tabulate_length zero f = refl
tabulate_length (suc n) f = ap suc (tabulate_length n (λ k. f (suc k)))

-- an infinite list that is d from n on is known by its first n
pub tabulate_all : {A : Type 0} (n : ℕ) (f : ℕ → A) (d : A) → ((i : ℕ) → n ≤ i → f i ≡ d) → (i : ℕ) → get_or (tabulate n f) i d ≡ f i
tabulate_all n f d h i = at (dec_lt i n)
  where
    at : Dec (i < n) → get_or (tabulate n f) i d ≡ f i
    at (yes l) = tabulate_at n f i d l
    at (no l) = get_or-eq_default (tabulate n f) d (rw tabulate_length (omega arith)) ∙ sym (h i (omega arith))

pub record At {A : Type 0} (n : ℕ) (f : ℕ → A) (a : A) : Type 0 where
  pub place : ℕ
  pub below : place < n
  pub is : a ≡ f place

pub mem_tabulate : {A : Type 0} (n : ℕ) (f : ℕ → A) (i : ℕ) → i < n → Memᴰ (f i) (tabulate n f)
unfolding tabulate
mem_tabulate zero f i h = absurd (not-suc-le-zero h)
mem_tabulate (suc n) f zero h = Memᴰ.head refl
mem_tabulate (suc n) f (suc i) h = Memᴰ.tail (mem_tabulate n (λ k. f (suc k)) i (le_of_suc-le-suc h))

pub tabulate_mem : {A : Type 0} (n : ℕ) (f : ℕ → A) (a : A) → Memᴰ a (tabulate n f) → At n f a
unfolding tabulate
tabulate_mem zero f a m = absurd (Memᴰ.not-nil m)
tabulate_mem {A} (suc n) f a m = at (Memᴰ.cases_cons m) (λ k. tabulate_mem n (λ i. f (suc i)) a k)
  where
    at : (a ≡ f 0) ⊎ Memᴰ a (tabulate n (λ i. f (suc i))) → (Memᴰ a (tabulate n (λ i. f (suc i))) → At n (λ i. f (suc i)) a) → At (suc n) f a
    at (inl e) r = record { place = 0; below = omega arith; is = e }
    at (inr k) r = let q = r k in record { place = suc q.place; below = omega (arith, q.below); is = q.is }
