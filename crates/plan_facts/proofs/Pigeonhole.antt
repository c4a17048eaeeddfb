-- A list without repeats whose elements are all in another is no longer than that: `no_longer`. Assumes nothing.
use Prim.Native.Nat.{◌≤◌}
use mathlib.Core.Path.{◌≡◌, refl, sym, ap}
use mathlib.Core.Logic.{◌⊎◌, inl, inr, ◌≢◌}
use mathlib.Core.List.Memᴰ
use mathlib.Core.List.{List, [], ◌∷◌, ◌++◌, Memᴰ}
use native.Mathlib.Omega.{arith}
use lib.ListN.{length, length-append}
use Rattle.plans.specs.Lists.{Pairs}

-- a list around one of its elements
record Around {A : Type 0} (x : A) (m : List A) : Type 0 where
  before : List A
  after : List A
  is : m ≡ before ++ x ∷ after

around : {A : Type 0} {x : A} (m : List A) → Memᴰ x m → Around x m
around [] i = absurd (Memᴰ.not-nil i)
around {A} {x} (y ∷ m) i = by (Memᴰ.cases_cons i) (λ j. around m j)
  where
    by : (x ≡ y) ⊎ Memᴰ x m → (Memᴰ x m → Around x m) → Around x (y ∷ m)
    by (inl e) r = record { before = []; after = m; is = ap {B = List A} (λ z. z ∷ m) (sym e) }
    by (inr j) r = let q = r j in record { before = y ∷ q.before; after = q.after; is = ap {B = List A} (λ l. y ∷ l) q.is }

-- another element stays where x is taken out
without : {A : Type 0} {x y : A} (a b : List A) → x ≢ y → Memᴰ y (a ++ x ∷ b) → Memᴰ y (a ++ b)
without {A} {x} {y} a b n i = by (Memᴰ.append_cases a i)
  where
    later : (y ≡ x) ⊎ Memᴰ y b → Memᴰ y (a ++ b)
    later (inl e) = absurd (n (sym e))
    later (inr j) = Memᴰ.append_right a j

    by : Memᴰ y a ⊎ Memᴰ y (x ∷ b) → Memᴰ y (a ++ b)
    by (inl j) = Memᴰ.append_left b j
    by (inr j) = later (Memᴰ.cases_cons j)

pub no_longer : {A : Type 0} (l m : List A) → Pairs ◌≢◌ l → ((y : A) → Memᴰ y l → Memᴰ y m) → length l ≤ length m
no_longer [] m p s = omega arith
no_longer {A} (x ∷ l) m p s =
    let r = around m (s x (Memᴰ.head refl)) in
    let h = no_longer l (r.before ++ r.after) p.1 (λ y i. without r.before r.after (p.0 y i) (rw r.is at (s y (Memᴰ.tail i)))) in
    omega (arith, h, ap length r.is, length-append r.before (x ∷ r.after), length-append r.before r.after)
