-- What the scheduler leaves unlowered is what document 01 says is never lowered, whatever the costs: `never_lowered`.
-- Proved by two invariants of the states reached (what is bound is grounded, what is used has its dependencies used) and by a walk along waiting dependencies.
use mathlib.Core.Path.{◌≡◌, refl, sym, ap, ◌∙◌, subst}
use mathlib.Core.Logic.{◌⊎◌, inl, inr, ◌≢◌}
use Prim.Native.Nat.{ℕ, zero, suc, ◌<◌}
use native.Mathlib.Omega.{arith}
use mathlib.Core.Bool.{Bool, true, false, ◌&&◌, ◌||◌, or-true, or-false}
use mathlib.Core.Option.{some}
use mathlib.Core.List.Memᴰ
use mathlib.Core.List.{List, [], ◌∷◌, Memᴰ}
use lib.Dec.{T, eqb}
use lib.ListN.{length}
use native.Mathlib.Decide.{ℕ_discrete}
use borrow.Author.Tests.{eq-eqb, eqb-true}
use Rattle.model.proofs.TabulateLaws.{At, mem_tabulate}
use Rattle.model.proofs.Bools.{first, second, either, true_false, not_so}
use Rattle.model.specs.Atoms.{Atom, Plain, Lit, LitBind, Eq, EqGlobal, Pred, Variadic, vars_in, deps_of, is_run}
use Rattle.model.specs.Bound.{Bound, has, add, has_all, is_in}
use Rattle.model.proofs.BoundLaws.{put_other, add_keeps, has_all_lem, not_blank}
use Rattle.model.specs.Lowering.{Emitted, lower_eq, lower}
use Rattle.model.specs.Scheduling.{State, unlowered, Chosen, Fair, atom_of, numbers, schedule}
use Rattle.model.specs.Matching.{mentions}
use Rattle.model.specs.Waiting.{is_eq, Named, Chain, ends, links, Unbound, DependsOn, direct, through, NeverLowered, unbound_eq, unbound_dependency, ring, DepsBelow}
use Rattle.model.proofs.Whole.{lower_vars}
use Rattle.model.proofs.Scheduled.{Reached, fresh, takes, unlowered_lt, Waits, eq_waits, pred_waits, waits, mem_at, number_mem, reached, left_waits}

-- a variable from which a chain of Eq atoms leads to one that another kind of atom names
data Grounded (qs : List Atom) : ℕ → Type 0 where
  named : {v : ℕ} → Named qs v → Grounded qs v
  linked : {v : ℕ} (f : Atom) (u : ℕ) → Memᴰ f qs → is_eq f ≡ true → mentions v f ≡ true → mentions u f ≡ true → Grounded qs u → Grounded qs v

-- a chain to a variable that is named
record Reaching (qs : List Atom) (e : Atom) : Type 0 where
  at : ℕ
  chain : Chain qs e at
  named_at : Named qs at

chain_of : (qs : List Atom) {v : ℕ} → Grounded qs v → (e : Atom) → is_eq e ≡ true → mentions v e ≡ true → Reaching qs e
chain_of qs {v} (named n) e q m = record { at = v; chain = ends q m; named_at = n }
chain_of qs {v} (linked f u i p mv mu g) e q m =
    let r = chain_of qs g f p mu in
    record { at = r.at; chain = links v q m mv i r.chain; named_at = r.named_at }

record Side (B : Bound) (a : Atom) : Type 0 where
  var : ℕ
  names : mentions var a ≡ true
  bound : has B var ≡ true

-- an Eq that lowers has a side that is bound
eq_side : (B : Bound) (k : ℕ) (a : Atom) (l : Emitted) → is_eq a ≡ true → lower B k a ≡ some l → Side B a
unfolding lower is_in
eq_side B k (Plain n o cs) l q e = absurd (subst T (sym q) tt)
eq_side B k (Lit n o x) l q e = absurd (subst T (sym q) tt)
eq_side B k (LitBind n o x) l q e = absurd (subst T (sym q) tt)
eq_side B k (EqGlobal a g) l q e = absurd (subst T (sym q) tt)
eq_side B k (Pred g ds) l q e = absurd (subst T (sym q) tt)
eq_side B k (Variadic n o cs f) l q e = absurd (subst T (sym q) tt)
eq_side B k (Eq a b) l q e = go (has B a) (has B b) refl refl e
  where
    left : has B a ≡ true → Side B (Eq a b)
    left h = record { var = a; names = ap (λ (t : Bool). t || (eqb a b || false)) (eq-eqb a a refl); bound = h }

    go : (p r : Bool) → has B a ≡ p → has B b ≡ r → lower_eq p r B a b ≡ some l → Side B (Eq a b)
    go true true h g e = left h
    go true false h g e = left h
    go false true h g e = record { var = b; names = ap (λ (t : Bool). eqb b a || (t || false)) (eq-eqb b b refl) ∙ or-true (eqb b a); bound = g }
    go false false h g e = let z : ◌≡◌ {A = ℕ} 0 1 = cc in absurd (omega arith)

all_mem : (U : Bound) (d : ℕ) (ds : List ℕ) → has_all U ds ≡ true → Memᴰ d ds → has U d ≡ true
unfolding has_all
all_mem U d [] h m = absurd (Memᴰ.not-nil m)
all_mem U d (x ∷ ds) h m = at (Memᴰ.cases_cons m) (λ k. all_mem U d ds (second (has U x) _ h) k)
  where
    at : (d ≡ x) ⊎ Memᴰ d ds → (Memᴰ d ds → has U d ≡ true) → has U d ≡ true
    at (inl e) r = ap (has U) e ∙ first (has U x) _ h
    at (inr k) r = r k

-- a dependency that waits
record Waiter (U : Bound) (ds : List ℕ) : Type 0 where
  dep : ℕ
  within : Memᴰ dep ds
  waits : has U dep ≡ false

waiter : (U : Bound) (ds : List ℕ) → has_all U ds ≡ false → Waiter U ds
unfolding has_all
waiter U [] h = absurd (subst T h tt)
waiter U (d ∷ ds) h = go (has U d) refl h (waiter U ds)
  where
    go : (b : Bool) → has U d ≡ b → b && has_all U ds ≡ false → (has_all U ds ≡ false → Waiter U ds) → Waiter U (d ∷ ds)
    go true e h r = let w = r h in record { dep = w.dep; within = Memᴰ.tail w.within; waits = w.waits }
    go false e h r = record { dep = d; within = Memᴰ.head refl; waits = e }

module _ (qs : List Atom) where
  -- what is bound is grounded
  grounded : {st : State} → Reached (atom_of qs) (numbers qs) st → (v : ℕ) → has st.bound v ≡ true → Grounded qs v
  grounded fresh v h = not_blank v h
  grounded (takes {st = s} i l r m u d e) v h =
      go (either (has s.bound v) (mentions v (atom_of qs i)) (sym (has_all_lem (vars_in (atom_of qs i)) s.bound v) ∙ ap (λ (B : Bound). has B v) (sym (lower_vars s.bound i (atom_of qs i) l e)) ∙ h)) (is_eq (atom_of qs i)) refl (λ w k. grounded r w k)
    where
      within : Memᴰ (atom_of qs i) qs
      within = number_mem qs i m

      go : (has s.bound v ≡ true) ⊎ (mentions v (atom_of qs i) ≡ true) → (b : Bool) → is_eq (atom_of qs i) ≡ b → ((w : ℕ) → has s.bound w ≡ true → Grounded qs w) → Grounded qs v
      go (inl k) b q g = g v k
      go (inr n) true q g = let p = eq_side s.bound i (atom_of qs i) l q e in linked (atom_of qs i) p.var within q n p.names (g p.var p.bound)
      go (inr n) false q g = named (record { by = atom_of qs i; within = within; other = q; names = n })

  -- what is lowered is bound
  used_bound : {st : State} → Reached (atom_of qs) (numbers qs) st → (i : ℕ) → has st.used i ≡ true → (v : ℕ) → mentions v (atom_of qs i) ≡ true → has st.bound v ≡ true
  used_bound fresh i h v n = not_blank i h
  used_bound (takes {st = s} j l r m u d e) i h v n = ap (λ (B : Bound). has B v) (lower_vars s.bound j (atom_of qs j) l e) ∙ has_all_lem (vars_in (atom_of qs j)) s.bound v ∙ at (ℕ_discrete i j) (λ q. used_bound r i q v n)
    where
      at : Dec (i ≡ j) → (has s.used i ≡ true → has s.bound v ≡ true) → (has s.bound v || mentions v (atom_of qs j)) ≡ true
      at (yes q) g = ap (λ (b : Bool). has s.bound v || b) (ap (λ (k : ℕ). mentions v (atom_of qs k)) (sym q) ∙ n) ∙ or-true (has s.bound v)
      at (no q) g = ap (λ (b : Bool). b || mentions v (atom_of qs j)) (g (sym (put_other false s.used j i true q) ∙ h))

  -- the dependencies of what is lowered were lowered before it
  deps_used_lem : {st : State} → Reached (atom_of qs) (numbers qs) st → (i j : ℕ) → has st.used i ≡ true → DependsOn qs i j → (has st.used j ≡ true) × (j ≢ i)
  deps_used_lem fresh i j h p = not_blank i h
  deps_used_lem (takes {st = s} k l r m u d e) i j h p = at (ℕ_discrete i k) (λ a b k p. deps_used_lem r a b k p)
    where
      Before : Type 0
      Before = (a b : ℕ) → has s.used a ≡ true → DependsOn qs a b → (has s.used b ≡ true) × (b ≢ a)

      before : (a b : ℕ) → DependsOn qs a b → a ≡ k → Before → has s.used b ≡ true
      before a b (direct n) q g = all_mem s.used b (deps_of (atom_of qs k)) d (subst (λ (c : ℕ). Memᴰ b (deps_of (atom_of qs c))) q n)
      before a b (through {k = c} n t) q g = (g c b (all_mem s.used c (deps_of (atom_of qs k)) d (subst (λ (a : ℕ). Memᴰ c (deps_of (atom_of qs a))) q n)) t).0

      at : Dec (i ≡ k) → Before → (has (add s.used k) j ≡ true) × (j ≢ i)
      at (yes q) g = let b = before i j p q g in (add_keeps s.used k j b, λ c. true_false b (ap (has s.used) (c ∙ q) ∙ u))
      at (no q) g = let b = g i j (sym (put_other false s.used k i true q) ∙ h) p in (add_keeps s.used k j b.0, b.1)

  depends_snoc : {i j k : ℕ} → DependsOn qs i j → Memᴰ k (deps_of (atom_of qs j)) → DependsOn qs i k
  depends_snoc (direct m) n = through m (direct n)
  depends_snoc (through m p) n = through m (depends_snoc p n)

  never_behind : {i j : ℕ} → Memᴰ j (deps_of (atom_of qs i)) → NeverLowered qs j → NeverLowered qs i
  never_behind m (unbound_eq u) = unbound_dependency (direct m) u
  never_behind m (unbound_dependency p u) = unbound_dependency (through m p) u
  never_behind m (ring p q) = ring (through m p) q

-- the sides of an Eq that waits are unbound; what waits names nothing else
waits_unbound : (U B : Bound) (a : Atom) → Waits U B a → (v : ℕ) → mentions v a ≡ true → has B v ≡ false
unfolding is_in
waits_unbound U B a (eq_waits c d p q) v n = go (either (eqb v c) (eqb v d) (ap (λ (t : Bool). eqb v c || t) (sym (or-false (eqb v d))) ∙ n))
  where
    go : (eqb v c ≡ true) ⊎ (eqb v d ≡ true) → has B v ≡ false
    go (inl e) = ap (has B) (eqb-true v c e) ∙ p
    go (inr e) = ap (has B) (eqb-true v d e) ∙ q
waits_unbound U B a (pred_waits g ds h) v n = absurd (subst T (sym n) tt)

-- what waits and is named is an Eq
waits_eq : (U B : Bound) (a : Atom) → Waits U B a → (v : ℕ) → mentions v a ≡ true → is_eq a ≡ true
unfolding is_in
waits_eq U B a (eq_waits c d p q) v n = refl
waits_eq U B a (pred_waits g ds h) v n = absurd (subst T (sym n) tt)

eq_names : (a : Atom) → is_eq a ≡ true → (v : ℕ) × (mentions v a ≡ true)
unfolding is_in
eq_names (Plain n o cs) q = absurd (subst T (sym q) tt)
eq_names (Lit n o x) q = absurd (subst T (sym q) tt)
eq_names (LitBind n o x) q = absurd (subst T (sym q) tt)
eq_names (Eq a b) q = (a, ap (λ (t : Bool). t || (eqb a b || false)) (eq-eqb a a refl))
eq_names (EqGlobal a g) q = absurd (subst T (sym q) tt)
eq_names (Pred g ds) q = absurd (subst T (sym q) tt)
eq_names (Variadic n o cs f) q = absurd (subst T (sym q) tt)

no_deps : (a : Atom) → is_run a ≡ true → (d : ℕ) → Memᴰ d (deps_of a) → ⊥
no_deps (Plain n o cs) r d m = Memᴰ.not-nil m
no_deps (Lit n o x) r d m = Memᴰ.not-nil m
no_deps (LitBind n o l) r d m = Memᴰ.not-nil m
no_deps (Eq a b) r d m = Memᴰ.not-nil m
no_deps (EqGlobal a g) r d m = Memᴰ.not-nil m
no_deps (Pred g ds) r d m = subst T (sym r) tt
no_deps (Variadic n o cs f) r d m = Memᴰ.not-nil m

module _ (qs : List Atom) {X : Type 0} (choose : X → State → Chosen X) (x : X) (fair : Fair (atom_of qs) (numbers qs) choose) where
  abbrev U : Bound
  U = (schedule qs choose x).used

  abbrev B : Bound
  B = (schedule qs choose x).bound

  -- what another kind of atom names is bound
  named_bound : (v : ℕ) → Named qs v → has B v ≡ true
  named_bound v n = go (mem_at qs n.by n.within)
    where
      go : At (length qs) (atom_of qs) n.by → has B v ≡ true
      go p = at (has U p.place) refl
        where
          names : mentions v (atom_of qs p.place) ≡ true
          names = ap (mentions v) (sym p.is) ∙ n.names

          at : (b : Bool) → has U p.place ≡ b → has B v ≡ true
          at true h = used_bound qs (reached qs choose x fair) p.place h v names
          at false h = true_false (waits_eq U B (atom_of qs p.place) (left_waits qs choose x fair p.place p.below h) v names) (ap is_eq (sym p.is) ∙ n.other)

  -- a chain that starts where nothing is bound meets nothing that is bound
  chain_unbound : (e : Atom) (v : ℕ) → Chain qs e v → ((u : ℕ) → mentions u e ≡ true → has B u ≡ false) → has B v ≡ false
  chain_unbound e v (ends q m) h = h v m
  chain_unbound e v (links {f = f} u q m n i c) h = chain_unbound f v c (go (mem_at qs f i))
    where
      go : At (length qs) (atom_of qs) f → (w : ℕ) → mentions w f ≡ true → has B w ≡ false
      go p w k = at (has U p.place) refl
        where
          at : (b : Bool) → has U p.place ≡ b → has B w ≡ false
          at true g = true_false (used_bound qs (reached qs choose x fair) p.place g u (ap (mentions u) (sym p.is) ∙ n)) (h u m)
          at false g = waits_unbound U B (atom_of qs p.place) (left_waits qs choose x fair p.place p.below g) w (ap (mentions w) (sym p.is) ∙ k)

  eq_unbound : (a : Atom) → is_eq a ≡ true → Waits U B a → Unbound qs a
  eq_unbound a q w = record { is = q; far = λ v c n. true_false (named_bound v n) (chain_unbound a v c (waits_unbound U B a w)) }

  -- an Eq that is lowered reaches a variable that is named
  used_bounded : (i : ℕ) → has U i ≡ true → Unbound qs (atom_of qs i) → ⊥
  used_bounded i h u =
      let n = eq_names (atom_of qs i) u.is in
      let r = chain_of qs (grounded qs (reached qs choose x fair) n.0 (used_bound qs (reached qs choose x fair) i h n.0 n.1)) (atom_of qs i) u.is n.1 in
      u.far r.at r.chain r.named_at

  -- the walk along dependencies that wait: it ends at an Eq, or comes to an atom that it has visited
  walk : DepsBelow qs → (f : ℕ) (W : Bound) (i : ℕ) → unlowered W (numbers qs) < f → i < length qs → has U i ≡ false → ((w : ℕ) → has W w ≡ true → has U w ≡ false → DependsOn qs w i) → NeverLowered qs i
  walk below zero W i s l u visited = absurd (omega arith)
  walk below (suc f) W i s l u visited = at (has W i) refl (λ h. by (atom_of qs i) refl (left_waits qs choose x fair i l u) (λ j. walk below f (add W i) j (shorter h)))
    where
      shorter : has W i ≡ false → unlowered (add W i) (numbers qs) < f
      shorter h = omega (arith, unlowered_lt W i (numbers qs) h (mem_tabulate (length qs) (λ j. j) i l))

      Next : Type 0
      Next = (j : ℕ) → j < length qs → has U j ≡ false → ((w : ℕ) → has (add W i) w ≡ true → has U w ≡ false → DependsOn qs w j) → NeverLowered qs j

      by : (a : Atom) → atom_of qs i ≡ a → Waits U B a → Next → NeverLowered qs i
      by a q (eq_waits c d p r) next = unbound_eq (subst (Unbound qs) (sym q) (eq_unbound a refl (eq_waits c d p r)))
      by a q (pred_waits g ds h) next = never_behind qs within (next w.dep (below (atom_of qs i) (number_mem qs i (mem_tabulate (length qs) (λ j. j) i l)) w.dep within) w.waits (λ v k n. more v k n (ℕ_discrete v i)))
        where
          w : Waiter U ds
          w = waiter U ds h

          within : Memᴰ w.dep (deps_of (atom_of qs i))
          within = subst (λ (b : Atom). Memᴰ w.dep (deps_of b)) (sym q) w.within

          more : (v : ℕ) → has (add W i) v ≡ true → has U v ≡ false → Dec (v ≡ i) → DependsOn qs v w.dep
          more v k n (yes e) = direct (subst (λ (j : ℕ). Memᴰ w.dep (deps_of (atom_of qs j))) (sym e) within)
          more v k n (no e) = depends_snoc qs (visited v (sym (put_other false W i v true e) ∙ k) n) within

      at : (b : Bool) → has W i ≡ b → (has W i ≡ false → NeverLowered qs i) → NeverLowered qs i
      at true h r = ring (visited i h u) (visited i h u)
      at false h r = r h

  -- an atom is left unlowered exactly if document 01 says that it is never lowered
  pub record Never (i : ℕ) : Type 0 where
    pub to : has (schedule qs choose x).used i ≡ false → NeverLowered qs i
    pub back : NeverLowered qs i → has (schedule qs choose x).used i ≡ false

  pub never_lowered : DepsBelow qs → (i : ℕ) → i < length qs → Never i
  never_lowered below i l = record {
    to = λ u. walk below (suc (unlowered U (numbers qs))) U i (omega arith) l u (λ w h k. true_false h k);
    back = λ n. not_so (has U i) (λ h. against n h);
  }
    where
      against : NeverLowered qs i → has U i ≡ true → ⊥
      against (unbound_eq u) h = used_bounded i h u
      against (unbound_dependency {j = j} p u) h = used_bounded j (deps_used_lem qs (reached qs choose x fair) i j h p).0 u
      against (ring {j = j} p q) h = let k = (deps_used_lem qs (reached qs choose x fair) i j h p).0 in (deps_used_lem qs (reached qs choose x fair) j j k q).1 refl

  -- its sides are "finally unbound"
  pub finally_unbound : (i : ℕ) → i < length qs → Unbound qs (atom_of qs i) → (v : ℕ) → mentions v (atom_of qs i) ≡ true → has (schedule qs choose x).bound v ≡ false
  finally_unbound i l u = waits_unbound U B (atom_of qs i) (left_waits qs choose x fair i l (not_so (has U i) (λ h. used_bounded i h u)))

  -- where nothing is never lowered, all atoms are lowered
  pub all_lowered : DepsBelow qs → ((i : ℕ) → i < length qs → NeverLowered qs i → ⊥) → (i : ℕ) → i < length qs → has (schedule qs choose x).used i ≡ true
  all_lowered below clear i l = go (has U i) refl
    where
      go : (b : Bool) → has U i ≡ b → has U i ≡ true
      go true h = h
      go false h = absurd (clear i l ((never_lowered below i l).to h))

  -- of the kinds that run only an Eq can be left: all are lowered where each Eq reaches a variable that another kind names
  pub run_all_lowered : ((a : Atom) → Memᴰ a qs → is_run a ≡ true) → ((a : Atom) → Memᴰ a qs → Unbound qs a → ⊥) → (i : ℕ) → i < length qs → has (schedule qs choose x).used i ≡ true
  run_all_lowered run bound = all_lowered (λ a m d n. absurd (no_deps a (run a m) d n)) (λ i l. not_left i (number_mem qs i (mem_tabulate (length qs) (λ j. j) i l)))
    where
      no_way : (i j : ℕ) → is_run (atom_of qs i) ≡ true → DependsOn qs i j → ⊥
      no_way i j r (direct m) = no_deps (atom_of qs i) r j m
      no_way i j r (through {k = k} m p) = no_deps (atom_of qs i) r k m

      not_left : (i : ℕ) → Memᴰ (atom_of qs i) qs → NeverLowered qs i → ⊥
      not_left i m (unbound_eq u) = bound (atom_of qs i) m u
      not_left i m (unbound_dependency {j = j} p u) = no_way i j (run (atom_of qs i) m) p
      not_left i m (ring {j = j} p q) = no_way i j (run (atom_of qs i) m) p
