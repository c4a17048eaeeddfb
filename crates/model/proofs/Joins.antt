-- The Joins of a lowering sequence are those of its atoms that become Joins, each with its atom's number. Proved atom by atom.
use mathlib.Core.Path.{◌≡◌, refl, sym, ◌∙◌, ap, subst}
use mathlib.Core.Logic.{◌⊎◌, inl, inr}
use Prim.Native.Nat.{ℕ, suc}
use native.Mathlib.Omega.{arith}
use mathlib.Core.Bool.{Bool, true, false, ◌&&◌, ◌||◌}
use mathlib.Core.Option.{some, some-injective}
use mathlib.Core.List.Memᴰ
use mathlib.Core.List.{List, [], ◌∷◌, ◌++◌, Memᴰ}
use lib.Dec.{eqb}
use borrow.Author.Tests.{eq-eqb, eqb-true}
use Rattle.model.specs.Atoms.{Operand, local, global, wild, Atom, Plain, Lit, LitBind, Eq, EqGlobal, Pred, Variadic, Step}
use Rattle.model.specs.Bound.{Bound, has, add}
use Rattle.model.specs.Scheduling.{scans}
use Rattle.model.specs.Lowering.{pv_is_bound, pv_mark_bound, read_child, emit_read_children, Emitted, lower_eq, lower_eq_global, lower, Lowered, done, more}
use Rattle.model.specs.Refusing.{is_join_of, has_join}
use Rattle.model.proofs.Bools.{true_false, first, second, either}

or_assoc : (a b c : Bool) → (a || (b || c)) ≡ ((a || b) || c)
or_assoc true b c = refl
or_assoc false b c = refl

or_none : (a : Bool) → (a || false) ≡ a
or_none true = refl
or_none false = refl

or_right : (a b : Bool) → b ≡ true → (a || b) ≡ true
or_right true b h = refl
or_right false b h = h

joins_append : (a : ℕ) (xs ys : List Step) → has_join a (xs ++ ys) ≡ (has_join a xs || has_join a ys)
unfolding has_join
joins_append a [] ys = refl
joins_append a (s ∷ xs) ys = ap (λ (b : Bool). is_join_of a s || b) (joins_append a xs ys) ∙ or_assoc (is_join_of a s) (has_join a xs) (has_join a ys)

reads_none : (a n i : ℕ) (B : Bound) (cs : List Operand) → has_join a (emit_read_children n i B cs) ≡ false
unfolding emit_read_children has_join
reads_none a n i B [] = refl
reads_none a n i B (c ∷ cs) =
    joins_append a (read_child n i (pv_is_bound B c) c) (emit_read_children n (suc i) (pv_mark_bound B c) cs)
    ∙ rw (go c (pv_is_bound B c), reads_none a n (suc i) (pv_mark_bound B c) cs)
  where
    go : (c : Operand) (b : Bool) → has_join a (read_child n i b c) ≡ false
    go (local v) true = refl
    go (local v) false = refl
    go (global g) b = refl
    go wild b = refl

-- one atom
abbrev Joined : ℕ → ℕ → Atom → Emitted → Type 0
Joined a k at l = has_join a l.steps ≡ (scans at && eqb k a)

atom_joins : (a : ℕ) (B : Bound) (k : ℕ) (at : Atom) (l : Emitted) → lower B k at ≡ some l → Joined a k at l
unfolding lower has_join
atom_joins a B k (Plain n o cs) l e = subst (Joined a k (Plain n o cs)) (some-injective _ _ e) (rw (reads_none a n 0 (add B n) cs) (or_none (eqb k a)))
atom_joins a B k (Lit n o x) l e = subst (Joined a k (Lit n o x)) (some-injective _ _ e) (or_none (eqb k a))
atom_joins a B k (LitBind n o x) l e = subst (Joined a k (LitBind n o x)) (some-injective _ _ e) (or_none (eqb k a))
atom_joins a B k (Eq x y) l e = go (has B x) (has B y) e
  where
    go : (p q : Bool) → lower_eq p q B x y ≡ some l → Joined a k (Eq x y) l
    go true true e = subst (Joined a k (Eq x y)) (some-injective _ _ e) refl
    go true false e = subst (Joined a k (Eq x y)) (some-injective _ _ e) refl
    go false true e = subst (Joined a k (Eq x y)) (some-injective _ _ e) refl
    go false false e = let z : ◌≡◌ {A = ℕ} 0 1 = cc in absurd (omega arith)
atom_joins a B k (EqGlobal x g) l e = go (has B x) e
  where
    go : (p : Bool) → lower_eq_global p B x g ≡ some l → Joined a k (EqGlobal x g) l
    go true e = subst (Joined a k (EqGlobal x g)) (some-injective _ _ e) refl
    go false e = subst (Joined a k (EqGlobal x g)) (some-injective _ _ e) refl
atom_joins a B k (Pred g ds) l e = subst (Joined a k (Pred g ds)) (some-injective _ _ e) refl
atom_joins a B k (Variadic n o cs f) l e = subst (Joined a k (Variadic n o cs f)) (some-injective _ _ e) (or_none (eqb k a))

-- an atom of the sequence that becomes a Join
pub record JoinedIn (at : ℕ → Atom) (ks : List ℕ) (a : ℕ) : Type 0 where
  pub within : Memᴰ a ks
  pub joined : scans (at a) ≡ true

pub plan_joins : {at : ℕ → Atom} {B : Bound} {ss : List Step} {B' : Bound} {ks : List ℕ} → Lowered at B ss B' ks → (a : ℕ) → has_join a ss ≡ true → JoinedIn at ks a
unfolding has_join
plan_joins done a h = true_false h refl
plan_joins {at} (more {B} k l {ss} {B''} {ks} e p) a h = by (either (has_join a l.steps) (has_join a ss) (sym (joins_append a l.steps ss) ∙ h)) (λ i. plan_joins p a i)
  where
    by : (has_join a l.steps ≡ true) ⊎ (has_join a ss ≡ true) → (has_join a ss ≡ true → JoinedIn at ks a) → JoinedIn at (k ∷ ks) a
    by (inl i) f =
        let z = sym (atom_joins a B k (at k) l e) ∙ i in
        let q : k ≡ a = eqb-true k a (second (scans (at k)) (eqb k a) z) in
        record { within = Memᴰ.head (sym q); joined = subst (λ (j : ℕ). scans (at j) ≡ true) q (first (scans (at k)) (eqb k a) z) }
    by (inr i) f = let r = f i in record { within = Memᴰ.tail r.within; joined = r.joined }

pub joins_plan : {at : ℕ → Atom} {B : Bound} {ss : List Step} {B' : Bound} {ks : List ℕ} → Lowered at B ss B' ks → (a : ℕ) → JoinedIn at ks a → has_join a ss ≡ true
unfolding has_join
joins_plan done a r = absurd (Memᴰ.not-nil r.within)
joins_plan {at} (more {B} k l {ss} {B''} {ks} e p) a r = joins_append a l.steps ss ∙ by (Memᴰ.cases_cons r.within) (λ i. joins_plan p a i)
  where
    by : (a ≡ k) ⊎ Memᴰ a ks → (JoinedIn at ks a → has_join a ss ≡ true) → (has_join a l.steps || has_join a ss) ≡ true
    by (inl q) f =
        let z : scans (at k) ≡ true = subst (λ (j : ℕ). scans (at j) ≡ true) q r.joined in
        rw (atom_joins a B k (at k) l e, z, eq-eqb k a (sym q))
    by (inr i) f = or_right (has_join a l.steps) (has_join a ss) (f (record { within = i; joined = r.joined }))
