-- The steps of a plan of the kinds that run name no global that its atoms do not name: `plan_given`; and those to which an atom binds or compares a
-- variable are named by its steps: `plan_set`. Proved by cases on the atom and by induction over the lowering sequence.
use Prim.Native.Nat.{ℕ, suc}
use mathlib.Core.Path.{◌≡◌, refl, sym, subst}
use mathlib.Core.Logic.{◌≢◌, ◌⊎◌, inl, inr}
use mathlib.Core.Bool.{Bool, true, false, not}
use mathlib.Core.Option.{some, some-injective}
use mathlib.Core.List.Memᴰ
use mathlib.Core.List.{List, [], ◌∷◌, ◌++◌, flat_map, Memᴰ}
use native.Mathlib.Omega.{arith}
use lib.Dec.{T, eqb}
use borrow.Author.Tests.{eqb-false, not-true}
use Rattle.running.specs.Lists.{one}
use Rattle.running.proofs.Bools.{both, first, second}
use Rattle.running.specs.Atoms.{Operand, local, global, wild, Atom, Plain, Lit, LitBind, Eq, EqGlobal, Pred, Variadic, Lookup, ByChildPos, Step, Join, unset, Table, global_class, is_run}
use Rattle.running.specs.Bound.{Bound, has, add}
use Rattle.running.specs.Lowering.{pv_is_bound, pv_mark_bound, read_child, emit_read_children, child_lookups, join_lookups, Emitted, lower_eq, lower_eq_global, lower, Lowered, done, more}
use Rattle.running.specs.Matching.{GlobalsSet}
use Rattle.running.specs.Items.{Each}
use Rattle.running.proofs.Fitting.{each_append}
use Rattle.running.specs.Validation.{global_of, lookup_globals, globals_of, all_given}
use Rattle.fair_plans.specs.Terms.{atom_globals}

each_left : {X : Type 0} (P : X → Type 0) (l m : List X) → Each P (l ++ m) → Each P l
each_left P [] m h = tt
each_left P (x ∷ l) m h = (h.0, each_left P l m h.1)

each_right : {X : Type 0} (P : X → Type 0) (l m : List X) → Each P (l ++ m) → Each P m
each_right P [] m h = h
each_right P (x ∷ l) m h = each_right P l m h.1

module _ (tb : Table) where
  -- the globals that a step names have classes
  abbrev pub StepGiven : Step → Type 0
  StepGiven s = all_given tb (globals_of s) ≡ true

  given_append : (l m : List ℕ) → all_given tb l ≡ true → all_given tb m ≡ true → all_given tb (l ++ m) ≡ true
  unfolding all_given
  given_append [] m p q = q
  given_append (g ∷ l) m p q = both (first (not (eqb (global_class tb g) unset)) _ p) (given_append l m (second (not (eqb (global_class tb g) unset)) _ p) q)

  given_left : (l m : List ℕ) → all_given tb (l ++ m) ≡ true → all_given tb l ≡ true
  unfolding all_given
  given_left [] m p = refl
  given_left (g ∷ l) m p = both (first (not (eqb (global_class tb g) unset)) _ p) (given_left l m (second (not (eqb (global_class tb g) unset)) _ p))

  given_right : (l m : List ℕ) → all_given tb (l ++ m) ≡ true → all_given tb m ≡ true
  unfolding all_given
  given_right [] m p = p
  given_right (g ∷ l) m p = given_right l m (second (not (eqb (global_class tb g) unset)) _ p)

  lookups_given : (B : Bound) (i : ℕ) (cs : List Operand) → all_given tb (flat_map global_of cs) ≡ true → all_given tb (flat_map lookup_globals (child_lookups B i cs)) ≡ true
  unfolding child_lookups flat_map all_given
  lookups_given B i [] h = refl
  lookups_given B i (c ∷ cs) h = go (pv_is_bound B c) (lookups_given B (suc i) cs (given_right (global_of c) (flat_map global_of cs) h))
    where
      go : (b : Bool) → all_given tb (flat_map lookup_globals (child_lookups B (suc i) cs)) ≡ true → all_given tb (flat_map lookup_globals (one b (ByChildPos c i) ++ child_lookups B (suc i) cs)) ≡ true
      go true r = given_append (global_of c) _ (given_left (global_of c) (flat_map global_of cs) h) r
      go false r = r

  join_given : (b : Bool) (n k o : ℕ) (ls : List Lookup) → all_given tb (flat_map lookup_globals ls) ≡ true → StepGiven (Join n k (join_lookups b n o ls))
  unfolding all_given flat_map
  join_given true n k o ls h = refl
  join_given false n k o ls h = h

  reads_given : (n i : ℕ) (B : Bound) (cs : List Operand) → all_given tb (flat_map global_of cs) ≡ true → Each StepGiven (emit_read_children n i B cs)
  unfolding emit_read_children flat_map all_given
  reads_given n i B [] h = tt
  reads_given n i B (c ∷ cs) h = each_append StepGiven (read_child n i (pv_is_bound B c) c) _ (go c (pv_is_bound B c) (given_left (global_of c) (flat_map global_of cs) h)) (reads_given n (suc i) (pv_mark_bound B c) cs (given_right (global_of c) (flat_map global_of cs) h))
    where
      go : (c : Operand) (b : Bool) → all_given tb (global_of c) ≡ true → Each StepGiven (read_child n i b c)
      go (local v) true h = (refl, tt)
      go (local v) false h = (refl, tt)
      go (global g) b h = (h, tt)
      go wild b h = tt

  atom_given : (B : Bound) (k : ℕ) (a : Atom) (l : Emitted) → lower B k a ≡ some l → is_run a ≡ true → all_given tb (atom_globals a) ≡ true → Each StepGiven l.steps
  unfolding lower all_given flat_map
  atom_given B k (Plain n o cs) l e r h = subst (λ (m : Emitted). Each StepGiven m.steps) (some-injective _ _ e) (join_given (has B n) n k o (child_lookups B 0 cs) (lookups_given B 0 cs h), reads_given n 0 (add B n) cs h)
  atom_given B k (Lit n o x) l e r h = subst (λ (m : Emitted). Each StepGiven m.steps) (some-injective _ _ e) (join_given (has B n) n k o [] refl, (refl, tt))
  atom_given B k (LitBind n o x) l e r h = subst (λ (m : Emitted). Each StepGiven m.steps) (some-injective _ _ e) (join_given (has B n) n k o [] refl, (refl, tt))
  atom_given B k (Eq a b) l e r h = go (has B a) (has B b) e
    where
      go : (p q : Bool) → lower_eq p q B a b ≡ some l → Each StepGiven l.steps
      go true true e = subst (λ (m : Emitted). Each StepGiven m.steps) (some-injective _ _ e) (refl, tt)
      go true false e = subst (λ (m : Emitted). Each StepGiven m.steps) (some-injective _ _ e) (refl, tt)
      go false true e = subst (λ (m : Emitted). Each StepGiven m.steps) (some-injective _ _ e) (refl, tt)
      go false false e = let z : ◌≡◌ {A = ℕ} 0 1 = cc in absurd (omega arith)
  atom_given B k (EqGlobal a g) l e r h = go (has B a) e
    where
      go : (p : Bool) → lower_eq_global p B a g ≡ some l → Each StepGiven l.steps
      go true e = subst (λ (m : Emitted). Each StepGiven m.steps) (some-injective _ _ e) (h, tt)
      go false e = subst (λ (m : Emitted). Each StepGiven m.steps) (some-injective _ _ e) (h, tt)
  atom_given B k (Pred g ds) l e r h = absurd (subst T (sym r) tt)
  atom_given B k (Variadic n o cs f) l e r h = absurd (subst T (sym r) tt)

  pub plan_given : {at : ℕ → Atom} {B : Bound} {ss : List Step} {B' : Bound} {ks : List ℕ} → Lowered at B ss B' ks → ((k : ℕ) → Memᴰ k ks → is_run (at k) ≡ true) → ((k : ℕ) → Memᴰ k ks → all_given tb (atom_globals (at k)) ≡ true) → Each StepGiven ss
  plan_given done r h = tt
  plan_given {at = at} (more {B} k l {ss} e w) r h =
      each_append StepGiven l.steps ss (atom_given B k (at k) l e (r k (Memᴰ.head refl)) (h k (Memᴰ.head refl)))
      (plan_given w (λ j m. r j (Memᴰ.tail m)) (λ j m. h j (Memᴰ.tail m)))

  -- and back: where the steps of an EqGlobal name only globals that have classes, its own has one
  eq_global_set : (B : Bound) (k a g : ℕ) (l : Emitted) → lower B k (EqGlobal a g) ≡ some l → Each StepGiven l.steps → global_class tb g ≢ unset
  unfolding lower all_given
  eq_global_set B k a g l e h = go (has B a) e
    where
      is : (all_given tb (g ∷ []) ≡ true) → global_class tb g ≢ unset
      is h = eqb-false (global_class tb g) unset (not-true (eqb (global_class tb g) unset) (first (not (eqb (global_class tb g) unset)) true h))

      go : (p : Bool) → lower_eq_global p B a g ≡ some l → global_class tb g ≢ unset
      go true e = is (rw (← some-injective _ _ e) at h).0
      go false e = is (rw (← some-injective _ _ e) at h).0

  atom_set : (B : Bound) (k : ℕ) (a : Atom) (l : Emitted) → lower B k a ≡ some l → is_run a ≡ true → Each StepGiven l.steps → GlobalsSet tb a
  atom_set B k (Plain n o cs) l e r h = tt
  atom_set B k (Lit n o x) l e r h = tt
  atom_set B k (LitBind n o x) l e r h = tt
  atom_set B k (Eq a b) l e r h = tt
  atom_set B k (EqGlobal a g) l e r h = eq_global_set B k a g l e h
  atom_set B k (Pred g ds) l e r h = tt
  atom_set B k (Variadic n o cs f) l e r h = absurd (subst T (sym r) tt)

  -- the globals to which the atoms of a plan bind or compare a variable have classes, where those that its steps name have
  pub plan_set : {at : ℕ → Atom} {B : Bound} {ss : List Step} {B' : Bound} {ks : List ℕ} → Lowered at B ss B' ks → ((k : ℕ) → Memᴰ k ks → is_run (at k) ≡ true) → Each StepGiven ss → (k : ℕ) → Memᴰ k ks → GlobalsSet tb (at k)
  plan_set done r h k m = absurd (Memᴰ.not-nil m)
  plan_set {at = at} (more {B} j l {ss} {B''} {ks} e w) r h k m = by (Memᴰ.cases_cons m) (λ n. plan_set w (λ i n. r i (Memᴰ.tail n)) (each_right StepGiven l.steps ss h) k n)
    where
      by : (k ≡ j) ⊎ Memᴰ k ks → (Memᴰ k ks → GlobalsSet tb (at k)) → GlobalsSet tb (at k)
      by (inl q) n = subst (λ (i : ℕ). GlobalsSet tb (at i)) (sym q) (atom_set B j (at j) l e (r j (Memᴰ.head refl)) (each_left StepGiven l.steps ss h))
      by (inr i) n = n i
