-- The steps of a whole plan, in whatever order: `whole`. Proved by induction over the lowering sequence.
use mathlib.Core.Path.{◌≡◌, refl, sym, ap, ◌∙◌, subst}
use mathlib.Core.Logic.{◌⊎◌, inl, inr}
use Prim.Native.Nat.{ℕ}
use native.Mathlib.Omega.{arith}
use mathlib.Core.Bool.{Bool, true, false, ◌||◌, or-false, or_assoc}
use mathlib.Core.Option.{some, some-injective}
use mathlib.Core.List.Memᴰ
use mathlib.Core.List.{List, [], ◌∷◌, ◌++◌, map, Memᴰ}
use Rattle.model.proofs.ListsLaws.{Finds, finds_iff, finds_self, seq}
use Rattle.model.specs.Atoms.{Atom, Plain, Lit, LitBind, Eq, EqGlobal, Pred, Variadic, vars_in, lits_in, seqs_in, tame_atom, Step, Table}
use Rattle.model.specs.Bound.{Bound, has, add, add_all, is_in}
use Rattle.model.proofs.BoundLaws.{has_all_lem, add_has, add_keeps}
use Rattle.model.specs.Lowering.{Emitted, lower_eq, lower_eq_global, lower, Lowered, done, more}
use Rattle.model.specs.Running.{Mode, Env, runs}
use Rattle.model.specs.Matching.{Assignment, Suits, Proper, Distinct, any, HoldsIn}
use Rattle.model.proofs.Traces.{runs_append}
use Rattle.model.proofs.Agreement.{Ext, Known, Inv}
use Rattle.model.proofs.Sets.{marks_all}
use Rattle.model.proofs.Group.{after, group}

-- with what f gives for each atom: its variables, its literals or its sequences
unfoldable pub add_atoms : (Atom → List ℕ) → Bound → List Atom → Bound
add_atoms f B [] = B
add_atoms f B (a ∷ qs) = add_atoms f (add_all B (f a)) qs

pub has_atoms : (f : Atom → List ℕ) (qs : List Atom) (B : Bound) (v : ℕ) → has (add_atoms f B qs) v ≡ (has B v || any (λ a. is_in v (f a)) qs)
unfolding add_atoms any
has_atoms f [] B v = sym (or-false (has B v))
has_atoms f (a ∷ qs) B v = has_atoms f qs (add_all B (f a)) v ∙ ap (λ b. b || any (λ a. is_in v (f a)) qs) (has_all_lem (f a) B v) ∙ or_assoc (has B v) (is_in v (f a)) (any (λ a. is_in v (f a)) qs)

-- what a plan binds
eq_vars : (B : Bound) (a b : ℕ) (p q : Bool) (l : Emitted) → has B a ≡ p → has B b ≡ q → lower_eq p q B a b ≡ some l → l.bound ≡ add (add B a) b
eq_vars B a b true true l h g e = subst (λ (m : Emitted). m.bound ≡ add (add B a) b) (some-injective _ _ e) (rw (add_has B a h) (sym (add_has B b g)))
eq_vars B a b true false l h g e = subst (λ (m : Emitted). m.bound ≡ add (add B a) b) (some-injective _ _ e) (rw (add_has B a h))
eq_vars B a b false true l h g e = subst (λ (m : Emitted). m.bound ≡ add (add B a) b) (some-injective _ _ e) (sym (add_has (add B a) b (add_keeps B a b g)))
eq_vars B a b false false l h g e = let z : ◌≡◌ {A = ℕ} 0 1 = cc in absurd (omega arith)

global_vars : (B : Bound) (a g : ℕ) (p : Bool) (l : Emitted) → has B a ≡ p → lower_eq_global p B a g ≡ some l → l.bound ≡ add B a
global_vars B a g true l h e = subst (λ (m : Emitted). m.bound ≡ add B a) (some-injective _ _ e) (sym (add_has B a h))
global_vars B a g false l h e = subst (λ (m : Emitted). m.bound ≡ add B a) (some-injective _ _ e) refl

pub lower_vars : (B : Bound) (k : ℕ) (a : Atom) (l : Emitted) → lower B k a ≡ some l → l.bound ≡ add_all B (vars_in a)
unfolding lower add_all
lower_vars B k (Plain n o cs) l e = sym (ap (λ (m : Emitted). m.bound) (some-injective _ _ e)) ∙ marks_all cs (add B n)
lower_vars B k (Lit n o x) l e = sym (ap (λ (m : Emitted). m.bound) (some-injective _ _ e))
lower_vars B k (LitBind n o x) l e = sym (ap (λ (m : Emitted). m.bound) (some-injective _ _ e))
lower_vars B k (Eq a b) l e = eq_vars B a b (has B a) (has B b) l refl refl e
lower_vars B k (EqGlobal a g) l e = global_vars B a g (has B a) l refl e
lower_vars B k (Pred g ds) l e = sym (ap (λ (m : Emitted). m.bound) (some-injective _ _ e))
lower_vars B k (Variadic n o cs f) l e = sym (ap (λ (m : Emitted). m.bound) (some-injective _ _ e)) ∙ marks_all cs (add B n)

pub plan_vars : {at : ℕ → Atom} {B : Bound} {ss : List Step} {B' : Bound} {ks : List ℕ} → Lowered at B ss B' ks → B' ≡ add_atoms vars_in B (map at ks)
unfolding add_atoms
plan_vars done = refl
plan_vars {at = at} (more {B} k l {ks} e r) = plan_vars r ∙ ap (λ C. add_atoms vars_in C (map at ks)) (lower_vars B k (at k) l e)

-- what the atoms of these numbers set
abbrev pub known : Bound → Bound → Bound → Known
known B L S = record { vars = B; lits = L; seqs = S }

-- all of them hold
abbrev pub HoldAll : Table → Mode → Assignment → (ℕ → Atom) → List ℕ → Type 0
HoldAll tb md α at ks = (k : ℕ) → Memᴰ k ks → HoldsIn tb md α at k

-- one atom more
one_more : (W : Type 0) (tb : Table) (md : Mode) (s t : List Step) (K K' : Known) (σ : Env) (at : ℕ → Atom) (k : ℕ) (ks : List ℕ) → Finds W (Inv K) Ext (runs tb md s σ) (λ α. Ext σ α × HoldsIn tb md α at k)
    → ((τ : Env) → Inv K τ → Finds W (Inv K') Ext (runs tb md t τ) (λ α. Ext τ α × HoldAll tb md α at ks)) → Finds W (Inv K') Ext (runs tb md (s ++ t) σ) (λ α. Ext σ α × HoldAll tb md α at (k ∷ ks))
one_more W tb md s t K K' σ at k ks g h =
    rw (runs_append tb md s t σ)
    (finds_iff (seq (runs tb md t) (runs tb md s σ) g (λ τ m u. h τ u))
    (λ α p. (p.0.0, λ j n. here α j p.0.1 p.1 (Memᴰ.cases_cons n)))
    (λ α p. ((p.0, p.1 k (Memᴰ.head refl)), λ j n. p.1 j (Memᴰ.tail n))))
  where
    here : (α : Assignment) (j : ℕ) → HoldsIn tb md α at k → HoldAll tb md α at ks → (j ≡ k) ⊎ Memᴰ j ks → HoldsIn tb md α at j
    here α j h g (inl q) = subst (HoldsIn tb md α at) (sym q) h
    here α j h g (inr n) = g j n

none_more : (W : Type 0) (tb : Table) (md : Mode) (K : Known) (σ : Env) (at : ℕ → Atom) → Inv K σ → Finds W (Inv K) Ext (runs tb md [] σ) (λ α. Ext σ α × HoldAll tb md α at [])
unfolding runs
none_more W tb md K σ at v = finds_iff (finds_self σ Ext v) (λ α e. (e, λ k m. absurd (Memᴰ.not-nil m))) (λ α p. p.0)

-- whatever order the costs choose: the run finds the assignments that agree with σ and under which all the atoms hold, and nothing else
pub whole : (W : Type 0) (tb : Table) (md : Mode) → Proper tb → (W → Distinct tb) → {at : ℕ → Atom} {B B' : Bound} {ss : List Step} {ks : List ℕ} → Lowered at B ss B' ks
    → ((k : ℕ) → Memᴰ k ks → Suits tb (at k)) → (W → (k : ℕ) → Memᴰ k ks → tame_atom (at k) ≡ true) → (L S : Bound) (σ : Env) → Inv (known B L S) σ
    → Finds W (Inv (known B' (add_atoms lits_in L (map at ks)) (add_atoms seqs_in S (map at ks)))) Ext (runs tb md ss σ) (λ α. Ext σ α × HoldAll tb md α at ks)
unfolding add_atoms
whole W tb md pr d {at = at} (done {B}) sh t L S σ v = none_more W tb md (known B L S) σ at v
whole W tb md pr d {at = at} {B' = B'} (more {B} k l {ss} {ks} e r) sh t L S σ v =
    one_more W tb md l.steps ss (after (known B L S) (at k) l.bound) (known B' (add_atoms lits_in (add_all L (lits_in (at k))) (map at ks)) (add_atoms seqs_in (add_all S (seqs_in (at k))) (map at ks))) σ at k ks
    (group W tb md pr k (known B L S) σ v d (at k) l e (sh k (Memᴰ.head refl)) (λ w. t w k (Memᴰ.head refl)))
    (λ τ u. whole W tb md pr d r (λ j n. sh j (Memᴰ.tail n)) (λ w j n. t w j (Memᴰ.tail n)) (add_all L (lits_in (at k))) (add_all S (seqs_in (at k))) τ u)
