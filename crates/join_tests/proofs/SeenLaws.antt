-- What was seen of a Join's lookups says what the tests of all lookups say. Proved by induction on the lookups.
use Prim.Native.Nat.{ℕ, ◌+◌, ◌<◌}
use mathlib.Core.Path.{◌≡◌, refl, sym, ◌∙◌}
use mathlib.Core.Bool.{Bool, true, false, ◌&&◌, ◌||◌, not, and-true, and_assoc, or-false, or_assoc}
use mathlib.Core.List.{List, [], ◌∷◌, ◌++◌, flat_map}
use native.Mathlib.Omega.{arith}
use native.Mathlib.Decide.{dec_lt}
use lib.Dec.{eqb, leb}
use borrow.Author.Tests.{ne_eqb, lt-ltb, le-ltb, le-leb, lt-leb}
use Rattle.hexadecimal.specs.Choose.{pick}
use Rattle.records.specs.Atoms.{Operand, local, global, wild, local_of, Lookup, ByOp, ByChildPos, ByRepr, ByContains}
use Rattle.records.specs.Bound.{Bound, has, has_all}
use Rattle.records.specs.Reading.{lookup_reads, is_repr, named_by_repr}
use Rattle.records.specs.Refusing.{count_ops, join_op}
use Rattle.join_tests.specs.Arrays.{fits_shape, reach_of}
use Rattle.join_tests.specs.Lookups.{op_seen, operand_seen, larger, lookup_seen, none_seen, seen_from, seen_in}
use Rattle.join_tests.specs.declared.seen.Seen.{Seen}

-- ---- how far positions reach, in any shape x

larger_within : (a b x : ℕ) → leb (larger a b) x ≡ leb a x && leb b x
larger_within a b x = by (dec_lt a b) (dec_lt x (larger a b))
  where
    by : Dec (a < b) → Dec (x < larger a b) → leb (larger a b) x ≡ leb a x && leb b x
    by (yes h) e = rw (lt-ltb a b h) (two (dec_lt x b))
      where
        two : Dec (x < b) → leb b x ≡ leb a x && leb b x
        two (yes k) = rw (lt-leb b x k) (none (leb a x))
          where
            none : (t : Bool) → false ≡ t && false
            none true = refl
            none false = refl
        two (no k) = rw (le-leb b x (omega arith), le-leb a x (omega arith))
    by (no h) e = rw (le-ltb a b (omega arith)) (two (dec_lt x a))
      where
        two : Dec (x < a) → leb a x ≡ leb a x && leb b x
        two (yes k) = rw (lt-leb a x k)
        two (no k) = rw (le-leb a x (omega arith), le-leb b x (omega arith))

pub larger_fits : (a b x : ℕ) → fits_shape (leb (larger a b)) x ≡ fits_shape (leb a) x && fits_shape (leb b) x
larger_fits a b x = by (eqb x 0)
  where
    by : (t : Bool) → pick t true (leb (larger a b) x) ≡ pick t true (leb a x) && pick t true (leb b x)
    by true = refl
    by false = larger_within a b x

pub nothing_fits : (x : ℕ) → fits_shape (leb 0) x ≡ true
nothing_fits x = by (eqb x 0)
  where
    by : (t : Bool) → pick t true (leb 0 x) ≡ true
    by true = refl
    by false = le-leb 0 x (omega arith)

-- ---- all lookups

module _ (B : Bound) (G : List ℕ) (v : ℕ) where
  -- a test of what was seen that each lookup's own test adds to
  pub seen_all : (φ : Seen → Bool) (P : Lookup → Bool) (Q : List Lookup → Bool) → Q [] ≡ true → ((l : Lookup) (ls : List Lookup) → Q (l ∷ ls) ≡ P l && Q ls) → ((s : Seen) (l : Lookup) → φ (lookup_seen B G v s l) ≡ φ s && P l) → (s : Seen) (ls : List Lookup) → φ (seen_from B G v s ls) ≡ φ s && Q ls
  unfolding seen_from
  seen_all φ P Q n c e s [] = rw n (sym (and-true (φ s)))
  seen_all φ P Q n c e s (l ∷ ls) = seen_all φ P Q n c e (lookup_seen B G v s l) ls ∙ rw (e s l, c l ls) (and_assoc (φ s) (P l) (Q ls))

  -- ---- what is read

  has_both : (us vs : List ℕ) → has_all B (us ++ vs) ≡ has_all B us && has_all B vs
  unfolding has_all
  has_both [] vs = refl
  has_both (u ∷ us) vs = rw (has_both us vs) (sym (and_assoc (has B u) (has_all B us) (has_all B vs)))

  operand_reads : (s : Seen) (c : Operand) → (operand_seen B G s c).read ≡ s.read && has_all B (local_of c)
  unfolding has_all
  operand_reads s (local u) = rw (and-true (has B u))
  operand_reads s (global g) = sym (and-true s.read)
  operand_reads s wild = sym (and-true s.read)

  lookup_reads_lem : (s : Seen) (l : Lookup) → (lookup_seen B G v s l).read ≡ s.read && has_all B (lookup_reads l)
  unfolding has_all
  lookup_reads_lem s (ByOp o) = sym (and-true s.read)
  lookup_reads_lem s (ByChildPos c i) = operand_reads s c
  lookup_reads_lem s (ByRepr u) = rw (and-true (has B u))
  lookup_reads_lem s (ByContains c) = operand_reads s c

  pub seen_read : (ls : List Lookup) → (seen_in B G v ls).read ≡ has_all B (flat_map lookup_reads ls)
  unfolding has_all flat_map
  seen_read = seen_all (λ s. s.read) (λ l. has_all B (lookup_reads l)) (λ ls. has_all B (flat_map lookup_reads ls)) refl (λ l ls. has_both (lookup_reads l) (flat_map lookup_reads ls)) lookup_reads_lem (none_seen B v)

  -- ---- whether the target is free or named

  operand_free : (s : Seen) (c : Operand) → (operand_seen B G s c).free ≡ s.free
  operand_free s (local u) = refl
  operand_free s (global g) = refl
  operand_free s wild = refl

  lookup_free : (s : Seen) (l : Lookup) → (lookup_seen B G v s l).free ≡ s.free || is_repr v l
  lookup_free s (ByOp o) = sym (or-false s.free)
  lookup_free s (ByChildPos c i) = operand_free s c ∙ sym (or-false s.free)
  lookup_free s (ByRepr u) = refl
  lookup_free s (ByContains c) = operand_free s c ∙ sym (or-false s.free)

  free_from : (s : Seen) (ls : List Lookup) → (seen_from B G v s ls).free ≡ s.free || named_by_repr v ls
  unfolding seen_from named_by_repr
  free_from s [] = sym (or-false s.free)
  free_from s (l ∷ ls) = free_from (lookup_seen B G v s l) ls ∙ rw (lookup_free s l) (or_assoc s.free (is_repr v l) (named_by_repr v ls))

  pub seen_free : (ls : List Lookup) → (seen_in B G v ls).free ≡ not (has B v) || named_by_repr v ls
  seen_free = free_from (none_seen B v)

  -- ---- how many ByOp, and the operator of the first

  operand_ops : (s : Seen) (c : Operand) → (operand_seen B G s c).ops ≡ s.ops
  operand_ops s (local u) = refl
  operand_ops s (global g) = refl
  operand_ops s wild = refl

  operand_op : (s : Seen) (c : Operand) → (operand_seen B G s c).op ≡ s.op
  operand_op s (local u) = refl
  operand_op s (global g) = refl
  operand_op s wild = refl

  ops_from : (s : Seen) (ls : List Lookup) → (seen_from B G v s ls).ops ≡ s.ops + count_ops ls
  unfolding seen_from count_ops
  ops_from s [] = omega arith
  ops_from s (ByOp o ∷ ls) = omega (arith, ops_from (op_seen s o) ls)
  ops_from s (ByChildPos c i ∷ ls) = ops_from (lookup_seen B G v s (ByChildPos c i)) ls ∙ rw (operand_ops s c)
  ops_from s (ByRepr u ∷ ls) = ops_from (lookup_seen B G v s (ByRepr u)) ls
  ops_from s (ByContains c ∷ ls) = ops_from (operand_seen B G s c) ls ∙ rw (operand_ops s c)

  pub seen_ops : (ls : List Lookup) → (seen_in B G v ls).ops ≡ count_ops ls
  seen_ops ls = omega (arith, ops_from (none_seen B v) ls)

  -- the first is kept
  op_kept : (s : Seen) (ls : List Lookup) → 0 < s.ops → (seen_from B G v s ls).op ≡ s.op
  unfolding seen_from
  op_kept s [] h = refl
  op_kept s (ByOp o ∷ ls) h = op_kept (op_seen s o) ls (omega arith) ∙ rw (ne_eqb s.ops 0 (λ e. omega arith))
  op_kept s (ByChildPos c i ∷ ls) h = op_kept (lookup_seen B G v s (ByChildPos c i)) ls (rw (operand_ops s c) h) ∙ operand_op s c
  op_kept s (ByRepr u ∷ ls) h = op_kept (lookup_seen B G v s (ByRepr u)) ls h
  op_kept s (ByContains c ∷ ls) h = op_kept (operand_seen B G s c) ls (rw (operand_ops s c) h) ∙ operand_op s c

  op_from : (s : Seen) (ls : List Lookup) → s.ops ≡ 0 → s.op ≡ 0 → (seen_from B G v s ls).op ≡ join_op ls
  unfolding seen_from join_op
  op_from s [] h e = e
  op_from s (ByOp o ∷ ls) h e = op_kept (op_seen s o) ls (omega arith) ∙ rw h
  op_from s (ByChildPos c i ∷ ls) h e = op_from (lookup_seen B G v s (ByChildPos c i)) ls (operand_ops s c ∙ h) (operand_op s c ∙ e)
  op_from s (ByRepr u ∷ ls) h e = op_from (lookup_seen B G v s (ByRepr u)) ls h e
  op_from s (ByContains c ∷ ls) h e = op_from (operand_seen B G s c) ls (operand_ops s c ∙ h) (operand_op s c ∙ e)

  pub seen_op : (ls : List Lookup) → (seen_in B G v ls).op ≡ join_op ls
  seen_op ls = op_from (none_seen B v) ls refl refl

  -- ---- how far positions reach

  operand_reach : (s : Seen) (c : Operand) → (operand_seen B G s c).reach ≡ s.reach
  operand_reach s (local u) = refl
  operand_reach s (global g) = refl
  operand_reach s wild = refl

  -- a lookup's own position, in a shape x
  abbrev pub fits_in : ℕ → Lookup → Bool
  fits_in x (ByOp o) = true
  fits_in x (ByChildPos c i) = fits_shape (leb (reach_of i)) x
  fits_in x (ByRepr u) = true
  fits_in x (ByContains c) = true

  lookup_reach : (x : ℕ) (s : Seen) (l : Lookup) → fits_shape (leb (lookup_seen B G v s l).reach) x ≡ fits_shape (leb s.reach) x && fits_in x l
  lookup_reach x s (ByOp o) = sym (and-true (fits_shape (leb s.reach) x))
  lookup_reach x s (ByChildPos c i) = rw (operand_reach s c) (larger_fits s.reach (reach_of i) x)
  lookup_reach x s (ByRepr u) = sym (and-true (fits_shape (leb s.reach) x))
  lookup_reach x s (ByContains c) = rw (operand_reach s c) (sym (and-true (fits_shape (leb s.reach) x)))

  -- any test of all lookups that goes by each one's position
  pub seen_reach : (x : ℕ) (Q : List Lookup → Bool) → Q [] ≡ true → ((l : Lookup) (ls : List Lookup) → Q (l ∷ ls) ≡ fits_in x l && Q ls) → (ls : List Lookup) → fits_shape (leb (seen_in B G v ls).reach) x ≡ Q ls
  seen_reach x Q n c ls = seen_all (λ s. fits_shape (leb s.reach) x) (fits_in x) Q n c (lookup_reach x) (none_seen B v) ls ∙ rw (nothing_fits x)
