-- The lookups of a Join's frame, one after another. Proved by the lookup's tag, and by induction on how many.
use Prim.Native.Nat.{ℕ, suc, ◌+◌, ◌-◌, ◌*◌, ◌<◌, ◌≤◌}
use mathlib.Core.Path.{◌≡◌, refl, sym, ◌∙◌, ap}
use mathlib.Core.Bool.{Bool, true, not}
use mathlib.Core.List.{List, [], ◌∷◌}
use native.Mathlib.Omega.{arith}
use lib.ListN.{get_or}
use borrow.Author.Tests.{ne_eqb}
use Rattle.records.specs.Atoms.{Operand, local, global, wild, Lookup, ByOp, ByChildPos, ByRepr, ByContains}
use Rattle.records.specs.Bound.{Bound, has}
use Rattle.records.specs.Items.{items_at}
use Rattle.records.specs.Lookups.{operand_at, lookup_at}
use Rattle.records.specs.Lookups.{lookups_of}
use Rattle.join_tests.specs.Lookups.{repr_seen, operand_seen, lookup_seen, none_seen, seen_from, seen_in}
use Rattle.join_tests.specs.declared.seen.Seen.{Seen}

-- ---- the lookup at byte i, by its tag

module _ (B : Bound) (G f : List ℕ) (i v t : ℕ) (s : Seen) (is : t ≡ get_or f i 0) where
  pub by_repr_lem : (u : ℕ) (x : Seen) → t ≡ 2 → u ≡ get_or f (i + 1) 0 → x ≡ repr_seen B v s u → x ≡ lookup_seen B G v s (lookup_at f i)
  by_repr_lem u x h e g = g ∙ rw (← is, h, e)

  module _ (y : Seen) (g : y ≡ operand_seen B G s (operand_at f (i + 1))) where
    pub by_contains_lem : (t ≡ 0 → ⊥) → (t ≡ 2 → ⊥) → (t ≡ 1 → ⊥) → y ≡ lookup_seen B G v s (lookup_at f i)
    by_contains_lem z h k = g ∙ rw (← is, ne_eqb t 0 z, ne_eqb t 2 h, ne_eqb t 1 k)

-- none is seen yet
pub none_seen_lem : (B : Bound) (v : ℕ) (b : Bool) → b ≡ has B v → ◌≡◌ {A = Seen} (record { ops = 0; op = 0; read = true; given = true; free = not b; reach = 0 }) (none_seen B v)
none_seen_lem B v b e = rw e

-- ---- n lookups

-- those from the k-th on, of n
abbrev pub left : List ℕ → ℕ → ℕ → List Lookup
left f n k = items_at lookup_at 4 f (4 + 4 * k) (n - k)

lookups_more : (f : List ℕ) (n k : ℕ) → k < n → left f n k ≡ lookup_at f (4 + 4 * k) ∷ left f n (k + 1)
unfolding items_at
lookups_more f n k h =
    let e : n - k ≡ suc (n - (k + 1)) = omega arith in
    let g : 4 + 4 * k + 4 ≡ 4 + 4 * (k + 1) = omega arith in
    rw (e, g)

lookups_none : (f : List ℕ) (n k : ℕ) → n ≤ k → left f n k ≡ []
unfolding items_at
lookups_none f n k h = let e : n - k ≡ 0 = omega arith in rw e

lookups_all : (f : List ℕ) (n d : ℕ) → n ≡ d → d ≡ get_or f 3 0 → left f n 0 ≡ lookups_of f
lookups_all f n d h e =
    let z : n - 0 ≡ get_or f 3 0 = omega arith in
    let y : 4 + 4 * 0 ≡ 4 = omega arith in
    rw (z, y)

-- s is seen of k lookups, and those left give the rest
pub record Seeing (B : Bound) (G f : List ℕ) (v n k : ℕ) (s : Seen) : Type 0 where
  pub few : k ≤ n
  pub low : s.ops ≤ k
  pub is : seen_in B G (get_or f 1 0) (lookups_of f) ≡ seen_from B G v s (left f n k)

pub seeing_none : (B : Bound) (G f : List ℕ) (v n d : ℕ) → v ≡ get_or f 1 0 → n ≡ d → d ≡ get_or f 3 0 → (s : Seen) → s ≡ none_seen B v → Seeing B G f v n 0 s
seeing_none B G f v n d w h e s q = record { few = omega arith; low = rw q (omega arith); is = rw (lookups_all f n d h e, q, w) }

operand_ops : (B : Bound) (G : List ℕ) (s : Seen) (c : Operand) → (operand_seen B G s c).ops ≡ s.ops
operand_ops B G s (local u) = refl
operand_ops B G s (global g) = refl
operand_ops B G s wild = refl

pub lookup_ops : (B : Bound) (G : List ℕ) (v : ℕ) (s : Seen) (l : Lookup) → (lookup_seen B G v s l).ops ≤ s.ops + 1
lookup_ops B G v s (ByOp o) = omega arith
lookup_ops B G v s (ByChildPos c i) = omega (arith, operand_ops B G s c)
lookup_ops B G v s (ByRepr u) = omega arith
lookup_ops B G v s (ByContains c) = omega (arith, operand_ops B G s c)

module _ (B : Bound) (G f : List ℕ) (v n k : ℕ) (s : Seen) (y : Seeing B G f v n k s) where
  pub seeing_again : (x : Seen) → k < n → x ≡ lookup_seen B G v s (lookup_at f (4 + 4 * k)) → Seeing B G f v n (k + 1) x
  unfolding seen_from
  seeing_again x h e = record {
    few = omega arith;
    low = let o : x.ops ≤ s.ops + 1 = rw e (lookup_ops B G v s (lookup_at f (4 + 4 * k))) in omega (arith, y.low);
    is = y.is ∙ rw (lookups_more f n k h) (ap (λ (z : Seen). seen_from B G v z (left f n (k + 1))) (sym e));
  }

  pub seeing_all : n ≤ k → s ≡ seen_in B G (get_or f 1 0) (lookups_of f)
  unfolding seen_from
  seeing_all h = sym (y.is ∙ rw (lookups_none f n k h))
