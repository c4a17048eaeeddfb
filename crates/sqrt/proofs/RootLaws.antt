-- `whole_root` is the whole root, and there is no other. Proved by induction over the digits.
use Prim.Native.Nat.{ℕ, zero, suc, ◌+◌, ◌-◌, ◌*◌, ◌/◌, ◌^◌, ◌≤◌, ◌<◌}
use mathlib.Core.Path.{◌≡◌}
use native.Mathlib.Nat.{pow-suc, mul-le-mul}
use native.Mathlib.Omega.{arith}
use lib.Dec.{leb}
use borrow.Author.Tests.{leb-true, leb-false}
use Rattle.base.proofs.ChooseLaws.{pick_elim}
use Rattle.sqrt.specs.Sqrt.{whole_root}
use Rattle.sqrt.specs.Root.{IsRoot}

-- the same without what is left
pub record Floor (n q : ℕ) : Type 0 where
  pub low : q * q ≤ n
  pub high : n < (q + 1) * (q + 1)

-- the root of a quarter gives the root's digits but the last
last_one : (n q : ℕ) → Floor (n / 4) q → (q * 2 + 1) * (q * 2 + 1) ≤ n → Floor n (q * 2 + 1)
last_one n q f h = record { low = h; high = omega arith }

last_nought : (n q : ℕ) → Floor (n / 4) q → n < (q * 2 + 1) * (q * 2 + 1) → Floor n (q * 2)
last_nought n q f h = record { low = omega arith; high = h }

-- the definition's number is the whole root
pub whole_root_lem : (k n : ℕ) → n < 4 ^ k → Floor n (whole_root k n)
unfolding whole_root
whole_root_lem zero n h = record { low = omega arith; high = omega arith }
whole_root_lem (suc k) n h =
    let q = whole_root k (n / 4) in
    let f : Floor (n / 4) q = whole_root_lem k (n / 4) (omega (arith, pow-suc 4 k)) in
    pick_elim (λ (r : ℕ). Floor n r) (leb ((q * 2 + 1) * (q * 2 + 1)) n) (q * 2 + 1) (q * 2)
    (λ t. last_one n q f (leb-true _ _ t))
    (λ t. last_nought n q f (leb-false _ _ t))

-- a smaller number is no whole root beside a larger
no_smaller : (n a b : ℕ) → Floor n a → Floor n b → a < b → ⊥
no_smaller n a b f g h =
    let k : a + 1 ≤ b = omega arith in
    omega (arith, mul-le-mul k k)

-- there is one whole root
pub one_floor : (n a b : ℕ) → Floor n a → Floor n b → a ≡ b
one_floor n a b f g = omega (arith, no_smaller n a b f g, no_smaller n b a g f)

pub floor_of : (n q r : ℕ) → IsRoot n q r → Floor n q
floor_of n q r i = record { low = omega arith; high = omega arith }

-- a whole root and what its square leaves are the definition's
pub the_root : (n q r : ℕ) → n < 4 ^ 53 → IsRoot n q r → q ≡ whole_root 53 n
the_root n q r h i = one_floor n q (whole_root 53 n) (floor_of n q r i) (whole_root_lem 53 n h)

pub the_rest : (n q r : ℕ) → IsRoot n q r → r ≡ n - q * q
the_rest n q r i = omega arith
