-- Emitters packed into numbers. Assumes nothing.
use Prim.Native.Nat.{ℕ, zero, suc, ◌+◌, ◌*◌, ◌/◌, ◌%◌, ◌<◌}
use mathlib.Core.Path.{◌≡◌, refl, ap}
use mathlib.Core.Option.{none}
use mathlib.Core.List.{List, [], ◌∷◌, map}
use native.Mathlib.Omega.{arith}
use lib.ListN.{length, get_or, set, get_or-map}
use borrow.Author.Tests.{eq-eqb, ne_eqb}
use Rattle.cost.specs.Bound.{put}
use Rattle.cost.specs.Lookups.{operand_at}
use Rattle.cost.specs.Emitters.{Emitters, decode, from, or_keep, set_emitter, set_operand, copy_emitter, emitter_of}

pub packed_is : (a s p x y z : ℕ) → a < 256 → s < 4 → p < 256 → x ≡ a → y ≡ s → z ≡ p → decode (1 + (x * 4 + y) * 256 + z) ≡ from a s p
packed_is a s p x y z b h g d e f =
    let n : 1 + (x * 4 + y) * 256 + z ≡ suc ((a * 4 + s) * 256 + p) = omega arith in
    let m : ((a * 4 + s) * 256 + p) / 1024 ≡ a = omega arith in
    let i : a % 256 ≡ a = omega arith in
    let j : ((a * 4 + s) * 256 + p) / 256 % 4 ≡ s = omega arith in
    let k : ((a * 4 + s) * 256 + p) % 256 ≡ p = omega arith in
    rw (n, m, i, j, k)

-- a number stored is an emitter put
pub put_decoded : (l : List ℕ) (i e : ℕ) → i < length l → map decode (set l i e) ≡ put none (map decode l) i (decode e)
unfolding put
put_decoded [] i e h = absurd (omega arith)
put_decoded (x ∷ l) zero e h = refl
put_decoded (x ∷ l) (suc i) e h = ap (λ (m : Emitters). decode x ∷ m) (put_decoded l i e (omega arith))

pub at_decoded : (l : List ℕ) (i : ℕ) → emitter_of (map decode l) i ≡ decode (get_or l i 0)
at_decoded l i = get_or-map decode l i 0

module _ (l : List ℕ) (v i e : ℕ) (q : i ≡ v) where
  pub set_none : v < length l → get_or l i 0 ≡ 0 → map decode (set l i e) ≡ set_emitter (map decode l) v (decode e)
  set_none h z =
      let g : get_or l v 0 ≡ 0 = rw (← q) z in
      rw (at_decoded l v, g, q) (put_decoded l v e h)

  pub set_some : (get_or l i 0 ≡ 0 → ⊥) → map decode l ≡ set_emitter (map decode l) v (decode e)
  set_some z = rw (at_decoded l v, ← q) (go (get_or l i 0) z)
    where
      go : (c : ℕ) → (c ≡ 0 → ⊥) → map decode l ≡ or_keep (decode c) (map decode l) i (decode e)
      go zero n = absurd (n refl)
      go (suc c) n = refl

-- an operand: a local's variable is set, a global has none
module _ (l f : List ℕ) (i t e : ℕ) (p : t ≡ get_or f i 0) where
  pub local_set : (m : List ℕ) (v : ℕ) → t ≡ 0 → v ≡ get_or f (i + 1) 0 → map decode m ≡ set_emitter (map decode l) v (decode e) → map decode m ≡ set_operand (map decode l) (operand_at f i) (decode e)
  local_set m v z q g = rw (← p, eq-eqb _ _ z, ← q) g

  pub global_kept : (t ≡ 0 → ⊥) → map decode l ≡ set_operand (map decode l) (operand_at f i) (decode e)
  global_kept z = rw (← p, ne_eqb _ _ z)

-- two variables of an Eq
module _ (l : List ℕ) (a b i j : ℕ) (p : i ≡ a) (q : j ≡ b) where
  abbrev Copied : List ℕ → Type 0
  Copied m = map decode m ≡ copy_emitter (emitter_of (map decode l) a) (emitter_of (map decode l) b) (map decode l) a b

  at_a : emitter_of (map decode l) a ≡ decode (get_or l i 0)
  at_a = rw p (at_decoded l a)

  at_b : emitter_of (map decode l) b ≡ decode (get_or l j 0)
  at_b = rw q (at_decoded l b)

  pub copy_left : a < length l → get_or l i 0 ≡ 0 → Copied (set l i (get_or l j 0))
  copy_left h z = rw (at_a, at_b, z) (go i p)
    where
      go : (m : ℕ) → m ≡ a → map decode (set l m (get_or l j 0)) ≡ put none (map decode l) a (decode (get_or l j 0))
      go m e = rw e (put_decoded l a (get_or l j 0) h)

  module _ (n : get_or l i 0 ≡ 0 → ⊥) where
    pub copy_right : b < length l → get_or l j 0 ≡ 0 → Copied (set l j (get_or l i 0))
    copy_right h z = rw (at_a, at_b, z, q) (go (get_or l i 0) n (put_decoded l b (get_or l i 0) h))
      where
        go : (c : ℕ) → (c ≡ 0 → ⊥) → map decode (set l b c) ≡ put none (map decode l) b (decode c) → map decode (set l b c) ≡ copy_emitter (decode c) none (map decode l) a b
        go zero n e = absurd (n refl)
        go (suc c) n e = e

    pub copy_none : (get_or l j 0 ≡ 0 → ⊥) → Copied l
    copy_none m = rw (at_a, at_b) (go (get_or l i 0) (get_or l j 0) n m)
      where
        go : (c d : ℕ) → (c ≡ 0 → ⊥) → (d ≡ 0 → ⊥) → map decode l ≡ copy_emitter (decode c) (decode d) (map decode l) a b
        go zero d n m = absurd (n refl)
        go (suc c) zero n m = absurd (m refl)
        go (suc c) (suc d) n m = refl
