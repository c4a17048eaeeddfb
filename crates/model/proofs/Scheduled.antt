-- The scheduler makes a lowering sequence, and ends when what is left waits. Proved by induction over its rounds, for any fair choice.
use mathlib.Core.Path.{◌≡◌, refl, sym, ◌∙◌, subst}
use mathlib.Core.Logic.{◌≢◌, ◌⊎◌, inl, inr}
use Prim.Native.Nat.{ℕ, zero, suc, ◌≤◌, ◌<◌}
use native.Mathlib.Omega.{arith}
use mathlib.Core.Bool.{Bool, true, false}
use mathlib.Core.Option.{Option, none, some}
use mathlib.Core.List.Memᴰ
use mathlib.Core.List.{List, [], ◌∷◌, ◌++◌, append-nil, append_assoc, Memᴰ}
use lib.Dec.{T, eqb}
use lib.ListN.{length}
use native.Mathlib.Decide.{ℕ_discrete}
use borrow.Author.Tests.{eqb-true, eqb-false}
use Rattle.set_model.specs.Choose.{pick}
use Rattle.model.proofs.ListsLaws.{get_d_mem}
use Rattle.model.proofs.TabulateLaws.{At, mem_tabulate, tabulate_mem}
use Rattle.model.specs.Atoms.{Atom, Plain, Lit, LitBind, Eq, EqGlobal, Pred, Variadic, Step}
use Rattle.model.specs.Bound.{Bound, has, add, has_all, blank}
use Rattle.model.proofs.BoundLaws.{put_same, put_other, add_keeps, not_blank}
use Rattle.model.specs.Lowering.{Emitted, lower_eq, lower_eq_global, lower, Lowered, done, more}
use Rattle.model.specs.Scheduling.{deps_used, is_free, only_if, try_eager_lower, scans, State, unplanned, took, settle, unlowered, Chosen, try_at, eager_pass, passes_up_to, lower_eager, emit_at, go_on, rounds_up_to, Fair, atom_of, numbers, schedule}

-- what is taken eagerly lowers, a Pred behind its dependencies
eager_takes : (U B : Bound) (k : ℕ) (a : Atom) (l : Emitted) → try_eager_lower U B k a ≡ some l → (deps_used U a ≡ true) × (lower B k a ≡ some l)
unfolding has_all
eager_takes U B k a l = go a (is_free U B a) refl
  where
    deps : (a : Atom) → is_free U B a ≡ true → deps_used U a ≡ true
    deps (Plain n o cs) h = refl
    deps (Lit n o x) h = refl
    deps (LitBind n o x) h = refl
    deps (Eq c d) h = refl
    deps (EqGlobal c g) h = refl
    deps (Pred g ds) h = h
    deps (Variadic n o cs f) h = refl

    go : (a : Atom) (b : Bool) → is_free U B a ≡ b → only_if b (lower B k a) ≡ some l → (deps_used U a ≡ true) × (lower B k a ≡ some l)
    go a true h e = (deps a h, e)
    go a false h e = let z : ◌≡◌ {A = ℕ} 0 1 = cc in absurd (omega arith)

scans_deps : (U : Bound) (a : Atom) → scans a ≡ true → deps_used U a ≡ true
unfolding has_all
scans_deps U (Plain n o cs) h = refl
scans_deps U (Lit n o x) h = refl
scans_deps U (LitBind n o x) h = refl
scans_deps U (Eq c d) h = refl
scans_deps U (EqGlobal c g) h = refl
scans_deps U (Pred g ds) h = absurd (subst T (sym h) tt)
scans_deps U (Variadic n o cs f) h = refl

-- a sequence grows at its end
snoc : {at : ℕ → Atom} {B : Bound} {ss : List Step} {C : Bound} {ks : List ℕ} → Lowered at B ss C ks → (k : ℕ) (l : Emitted) → lower C k (at k) ≡ some l → Lowered at B (ss ++ l.steps) l.bound (ks ++ (k ∷ []))
snoc done k l e = rw (← append-nil l.steps) (more k l e done)
snoc (more j m {ss} p r) k l e = rw (append_assoc m.steps ss l.steps) (more j m p (snoc r k l e))

module _ (atomAt : ℕ → Atom) (js : List ℕ) where
  -- one atom lowered after another, a Pred behind its dependencies
  pub data Reached : State → Type 0 where
    fresh : Reached unplanned
    takes : {st : State} (i : ℕ) (l : Emitted) → Reached st → Memᴰ i js → has st.used i ≡ false → deps_used st.used (atomAt i) ≡ true → lower st.bound i (atomAt i) ≡ some l → Reached (took st i l)

module _ (atomAt : ℕ → Atom) (js : List ℕ) where
  -- the order in which the atoms were lowered: the numbers that are used, each known
  pub record Ordered (st : State) : Type 0 where
    pub order : List ℕ
    pub lowered : Lowered atomAt blank st.steps st.bound order
    pub all : (i : ℕ) → has st.used i ≡ true → Memᴰ i order
    pub known : (i : ℕ) → Memᴰ i order → Memᴰ i js

  pub ordered : (st : State) → Reached atomAt js st → Ordered st
  ordered st fresh = record { order = []; lowered = done; all = λ i h. not_blank i h; known = λ i m. absurd (Memᴰ.not-nil m) }
  ordered st (takes {st = s} i l r m u d e) = grow (ordered s r)
    where
      grow : Ordered s → Ordered (took s i l)
      grow o = record { order = o.order ++ (i ∷ []); lowered = snoc o.lowered i l e; all = λ j h. at j h (ℕ_discrete j i); known = λ j n. back j (Memᴰ.append_cases o.order n) }
        where
          at : (j : ℕ) → has (add s.used i) j ≡ true → Dec (j ≡ i) → Memᴰ j (o.order ++ (i ∷ []))
          at j h (yes q) = Memᴰ.append_right o.order (Memᴰ.head q)
          at j h (no q) = Memᴰ.append_left (i ∷ []) (o.all j (sym (put_other false s.used i j true q) ∙ h))

          back : (j : ℕ) → Memᴰ j o.order ⊎ Memᴰ j (i ∷ []) → Memᴰ j js
          back j (inl n) = o.known j n
          back j (inr n) = subst (λ (k : ℕ). Memᴰ k js) (sym (Memᴰ.eq_of_singleton n)) m

pick_le : (b c : Bool) (x y : ℕ) → (b ≡ true → c ≡ true) → x ≤ y → pick c x (suc x) ≤ pick b y (suc y)
pick_le true true x y h l = l
pick_le true false x y h l = absurd (subst T (sym (h refl)) tt)
pick_le false true x y h l = omega arith
pick_le false false x y h l = omega arith

unlowered_le : (U : Bound) (j : ℕ) (js : List ℕ) → unlowered (add U j) js ≤ unlowered U js
unfolding unlowered
unlowered_le U j [] = omega arith
unlowered_le U j (i ∷ js) = pick_le (has U i) (has (add U j) i) _ _ (add_keeps U j i) (unlowered_le U j js)

pub unlowered_lt : (U : Bound) (j : ℕ) (js : List ℕ) → has U j ≡ false → Memᴰ j js → unlowered (add U j) js < unlowered U js
unfolding unlowered
unlowered_lt U j [] h m = absurd (Memᴰ.not-nil m)
unlowered_lt U j (i ∷ js) h m = at (Memᴰ.cases_cons m) (λ k. unlowered_lt U j js h k)
  where
    strict : (b c : Bool) (x y : ℕ) → (b ≡ true → c ≡ true) → x < y → pick c x (suc x) < pick b y (suc y)
    strict true true x y h l = l
    strict true false x y h l = absurd (subst T (sym (h refl)) tt)
    strict false true x y h l = omega arith
    strict false false x y h l = omega arith

    at : (j ≡ i) ⊎ Memᴰ j js → (Memᴰ j js → unlowered (add U j) js < unlowered U js) → pick (has (add U j) i) (unlowered (add U j) js) (suc (unlowered (add U j) js)) < pick (has U i) (unlowered U js) (suc (unlowered U js))
    at (inl e) r = rw (← e, put_same false U j true, h) (let k = unlowered_le U j js in omega arith)
    at (inr n) r = strict (has U i) (has (add U j) i) _ _ (add_keeps U j i) (r n)

scans_low : (B : Bound) (k : ℕ) (a : Atom) → scans a ≡ true → (l : Emitted) × (lower B k a ≡ some l)
unfolding lower
scans_low B k (Plain n o cs) h = (_, refl)
scans_low B k (Lit n o x) h = (_, refl)
scans_low B k (LitBind n o x) h = (_, refl)
scans_low B k (Eq a b) h = absurd (subst T (sym h) tt)
scans_low B k (EqGlobal a g) h = absurd (subst T (sym h) tt)
scans_low B k (Pred g ds) h = absurd (subst T (sym h) tt)
scans_low B k (Variadic n o cs f) h = (_, refl)

module _ (atomAt : ℕ → Atom) (js : List ℕ) where
  settle_reached : (b : Bool) (r : Option Emitted) (i : ℕ) (st : State) → has st.used i ≡ b → ((l : Emitted) → r ≡ some l → (deps_used st.used (atomAt i) ≡ true) × (lower st.bound i (atomAt i) ≡ some l)) → Memᴰ i js → Reached atomAt js st → Reached atomAt js (settle b r i st)
  settle_reached true r i st h f m p = p
  settle_reached false none i st h f m p = p
  settle_reached false (some l) i st h f m p = takes i l p m h (f l refl).0 (f l refl).1

  pass_reached : (ks : List ℕ) (st : State) → ((i : ℕ) → Memᴰ i ks → Memᴰ i js) → Reached atomAt js st → Reached atomAt js (eager_pass atomAt js ks st)
  unfolding eager_pass
  pass_reached [] st f p = p
  pass_reached (i ∷ ks) st f p = pass_reached ks (try_at atomAt js i st) (λ j m. f j (Memᴰ.tail m))
      (settle_reached (has st.used i) (try_eager_lower st.used st.bound i (atomAt i)) i st refl (λ l. eager_takes st.used st.bound i (atomAt i) l) (f i (Memᴰ.head refl)) p)

  pick_reached : (b : Bool) (s t : State) → Reached atomAt js s → Reached atomAt js t → Reached atomAt js (pick b s t)
  pick_reached true s t p q = p
  pick_reached false s t p q = q

  passes_reached : (f : ℕ) (st : State) → Reached atomAt js st → Reached atomAt js (passes_up_to atomAt js f st)
  unfolding passes_up_to
  passes_reached zero st p = p
  passes_reached (suc f) st p = let q = pass_reached js st (λ i m. m) p in pick_reached (eqb (unlowered (eager_pass atomAt js js st).used js) (unlowered st.used js)) _ _ q (passes_reached f (eager_pass atomAt js js st) q)

  module _ {X : Type 0} (choose : X → State → Chosen X) (fair : Fair atomAt js choose) where
    rounds_reached : (f : ℕ) (x : X) (st : State) → Reached atomAt js st → Reached atomAt js (rounds_up_to atomAt js choose f x st).state
    unfolding rounds_up_to
    rounds_reached zero x st p = p
    rounds_reached (suc f) x st p = at (choose x s).at refl (λ y t. rounds_reached f y t)
      where
        s : State
        s = lower_eager atomAt js st

        q : Reached atomAt js s
        q = passes_reached (suc (unlowered st.used js)) st p

        at : (o : Option ℕ) → (choose x s).at ≡ o → ((y : X) (t : State) → Reached atomAt js t → Reached atomAt js (rounds_up_to atomAt js choose f y t).state) → Reached atomAt js (go_on atomAt js (rounds_up_to atomAt js choose f) o (choose x s).next s).state
        at none e k = q
        at (some i) e k = k (choose x s).next (emit_at atomAt js i s) (settle_reached false (lower s.bound i (atomAt i)) i s (fair.unused x s i e) (λ l h. (scans_deps s.used (atomAt i) (fair.scanning x s i e), h)) (fair.known x s i e) q)

  -- nothing is left that an eager pass would lower
  abbrev pub Idle : State → ℕ → Type 0
  Idle st i = has st.used i ≡ false → try_eager_lower st.used st.bound i (atomAt i) ≡ none

  settle_left : (b : Bool) (r : Option Emitted) (i : ℕ) (st : State) → unlowered (settle b r i st).used js ≤ unlowered st.used js
  settle_left true r i st = omega arith
  settle_left false none i st = omega arith
  settle_left false (some l) i st = unlowered_le st.used i js

  settle_idle : (b : Bool) (r : Option Emitted) (i : ℕ) (st : State) → has st.used i ≡ b → Memᴰ i js → unlowered (settle b r i st).used js ≡ unlowered st.used js → (settle b r i st ≡ st) × (b ≡ false → r ≡ none)
  settle_idle true r i st h m e = (refl, λ f. absurd (subst T f tt))
  settle_idle false none i st h m e = (refl, λ f. refl)
  settle_idle false (some l) i st h m e = let k = unlowered_lt st.used i js h m in absurd (omega arith)

  pass_left : (ks : List ℕ) (st : State) → unlowered (eager_pass atomAt js ks st).used js ≤ unlowered st.used js
  unfolding eager_pass
  pass_left [] st = omega arith
  pass_left (i ∷ ks) st = let a = pass_left ks (try_at atomAt js i st) in let b = settle_left (has st.used i) (try_eager_lower st.used st.bound i (atomAt i)) i st in omega arith

  pass_idle : (ks : List ℕ) (st : State) → ((i : ℕ) → Memᴰ i ks → Memᴰ i js) → unlowered (eager_pass atomAt js ks st).used js ≡ unlowered st.used js → (eager_pass atomAt js ks st ≡ st) × ((i : ℕ) → Memᴰ i ks → Idle st i)
  unfolding eager_pass
  pass_idle [] st f e = (refl, λ i m. absurd (Memᴰ.not-nil m))
  pass_idle (i ∷ ks) st f e = one_more (pass_idle ks (try_at atomAt js i st) (λ j m. f j (Memᴰ.tail m)) (omega (arith, pass_left ks (try_at atomAt js i st), settle_left (has st.used i) (try_eager_lower st.used st.bound i (atomAt i)) i st, e)))
    where
      s : State
      s = try_at atomAt js i st

      a : unlowered (eager_pass atomAt js ks s).used js ≤ unlowered s.used js
      a = pass_left ks s

      b : unlowered s.used js ≤ unlowered st.used js
      b = settle_left (has st.used i) (try_eager_lower st.used st.bound i (atomAt i)) i st

      q : (s ≡ st) × (has st.used i ≡ false → try_eager_lower st.used st.bound i (atomAt i) ≡ none)
      q = settle_idle (has st.used i) (try_eager_lower st.used st.bound i (atomAt i)) i st refl (f i (Memᴰ.head refl)) (omega (arith, a, b, e))

      one_more : (eager_pass atomAt js ks s ≡ s) × ((j : ℕ) → Memᴰ j ks → Idle s j) → (eager_pass atomAt js ks s ≡ st) × ((j : ℕ) → Memᴰ j (i ∷ ks) → Idle st j)
      one_more r = (r.0 ∙ q.0, λ j m. at j (Memᴰ.cases_cons m))
        where
          at : (j : ℕ) → (j ≡ i) ⊎ Memᴰ j ks → Idle st j
          at j (inl h) = subst (Idle st) (sym h) q.1
          at j (inr m) = subst (λ (t : State). Idle t j) q.0 (r.1 j m)

  passes_left : (f : ℕ) (st : State) → unlowered (passes_up_to atomAt js f st).used js ≤ unlowered st.used js
  unfolding passes_up_to
  passes_left zero st = omega arith
  passes_left (suc f) st = at (eqb (unlowered (eager_pass atomAt js js st).used js) (unlowered st.used js)) (passes_left f (eager_pass atomAt js js st))
    where
      at : (b : Bool) → unlowered (passes_up_to atomAt js f (eager_pass atomAt js js st)).used js ≤ unlowered (eager_pass atomAt js js st).used js → unlowered (pick b (eager_pass atomAt js js st) (passes_up_to atomAt js f (eager_pass atomAt js js st))).used js ≤ unlowered st.used js
      at true h = pass_left js st
      at false h = omega (arith, pass_left js st)

  passes_idle : (f : ℕ) (st : State) → unlowered st.used js < f → (i : ℕ) → Memᴰ i js → Idle (passes_up_to atomAt js f st) i
  unfolding passes_up_to
  passes_idle zero st h i m = absurd (omega arith)
  passes_idle (suc f) st h i m = at (eqb (unlowered (eager_pass atomAt js js st).used js) (unlowered st.used js)) refl (λ k. passes_idle f (eager_pass atomAt js js st) k i m)
    where
      at : (b : Bool) → eqb (unlowered (eager_pass atomAt js js st).used js) (unlowered st.used js) ≡ b → (unlowered (eager_pass atomAt js js st).used js < f → Idle (passes_up_to atomAt js f (eager_pass atomAt js js st)) i) → Idle (pick b (eager_pass atomAt js js st) (passes_up_to atomAt js f (eager_pass atomAt js js st))) i
      at true e r = let p = pass_idle js st (λ j n. n) (eqb-true _ _ e) in subst (λ (t : State). Idle t i) (sym p.0) (p.1 i m)
      at false e r = let ne : unlowered (eager_pass atomAt js js st).used js ≢ unlowered st.used js = eqb-false _ _ e in r (omega (arith, pass_left js st))

  -- when the loop ends: what is left is not eager and does not scan
  pub record Ended (st : State) : Type 0 where
    pub idle : (i : ℕ) → Memᴰ i js → has st.used i ≡ false → try_eager_lower st.used st.bound i (atomAt i) ≡ none
    pub noscan : (i : ℕ) → Memᴰ i js → has st.used i ≡ false → scans (atomAt i) ≡ false

  module _ {X : Type 0} (choose : X → State → Chosen X) (fair : Fair atomAt js choose) where
    emit_left : (i : ℕ) (s : State) → Memᴰ i js → has s.used i ≡ false → scans (atomAt i) ≡ true → unlowered (emit_at atomAt js i s).used js < unlowered s.used js
    emit_left i s m u c = let r = scans_low s.bound i (atomAt i) c in rw r.1 (unlowered_lt s.used i js u m)

    rounds_ended : (f : ℕ) (x : X) (st : State) → unlowered st.used js < f → Ended (rounds_up_to atomAt js choose f x st).state
    unfolding rounds_up_to
    rounds_ended zero x st h = absurd (omega arith)
    rounds_ended (suc f) x st h = at (choose x s).at refl (λ y t. rounds_ended f y t)
      where
        s : State
        s = lower_eager atomAt js st

        at : (o : Option ℕ) → (choose x s).at ≡ o → ((y : X) (t : State) → unlowered t.used js < f → Ended (rounds_up_to atomAt js choose f y t).state) → Ended (go_on atomAt js (rounds_up_to atomAt js choose f) o (choose x s).next s).state
        at none e k = record { idle = λ i m. passes_idle (suc (unlowered st.used js)) st (omega arith) i m; noscan = fair.last x s e }
        at (some i) e k = k (choose x s).next (emit_at atomAt js i s) (omega (arith, emit_left i s (fair.known x s i e) (fair.unused x s i e) (fair.scanning x s i e), passes_left (suc (unlowered st.used js)) st))

  -- the bound does not matter: what lower_eager does next
  passes_same : (f g : ℕ) (st : State) → unlowered st.used js < f → unlowered st.used js < g → passes_up_to atomAt js f st ≡ passes_up_to atomAt js g st
  unfolding passes_up_to
  passes_same zero g st h k = absurd (omega arith)
  passes_same (suc f) zero st h k = absurd (omega arith)
  passes_same (suc f) (suc g) st h k = at (eqb (unlowered s.used js) (unlowered st.used js)) refl (λ p q. passes_same f g s p q)
    where
      s : State
      s = eager_pass atomAt js js st

      at : (b : Bool) → eqb (unlowered s.used js) (unlowered st.used js) ≡ b → (unlowered s.used js < f → unlowered s.used js < g → passes_up_to atomAt js f s ≡ passes_up_to atomAt js g s) → pick b s (passes_up_to atomAt js f s) ≡ pick b s (passes_up_to atomAt js g s)
      at true e r = refl
      at false e r = let ne : unlowered s.used js ≢ unlowered st.used js = eqb-false _ _ e in r (omega (arith, pass_left js st)) (omega (arith, pass_left js st))

  pub lower_eager_is : (st : State) → lower_eager atomAt js st ≡ pick (eqb (unlowered (eager_pass atomAt js js st).used js) (unlowered st.used js)) (eager_pass atomAt js js st) (lower_eager atomAt js (eager_pass atomAt js js st))
  unfolding passes_up_to
  lower_eager_is st = at (eqb (unlowered s.used js) (unlowered st.used js)) refl
    where
      s : State
      s = eager_pass atomAt js js st

      at : (b : Bool) → eqb (unlowered s.used js) (unlowered st.used js) ≡ b → pick b s (passes_up_to atomAt js (unlowered st.used js) s) ≡ pick b s (lower_eager atomAt js s)
      at true e = refl
      at false e = let ne : unlowered s.used js ≢ unlowered st.used js = eqb-false _ _ e in passes_same (unlowered st.used js) (suc (unlowered s.used js)) s (omega (arith, pass_left js st)) (omega arith)

-- an atom that waits at the end is an Eq with both sides unbound, or a Pred with a dependency that waits
pub data Waits (U B : Bound) : Atom → Type 0 where
  eq_waits : (a b : ℕ) → has B a ≡ false → has B b ≡ false → Waits U B (Eq a b)
  pred_waits : (g : ℕ) (ds : List ℕ) → has_all U ds ≡ false → Waits U B (Pred g ds)

pub waits : (U B : Bound) (k : ℕ) (a : Atom) → try_eager_lower U B k a ≡ none → scans a ≡ false → Waits U B a
unfolding lower
waits U B k (Plain n o cs) e s = absurd (subst T s tt)
waits U B k (Lit n o x) e s = absurd (subst T s tt)
waits U B k (LitBind n o x) e s = absurd (subst T s tt)
waits U B k (Variadic n o cs f) e s = absurd (subst T s tt)
waits U B k (Pred g ds) e s = at (has_all U ds) refl e
  where
    at : (p : Bool) → has_all U ds ≡ p → only_if p (lower B k (Pred g ds)) ≡ none → Waits U B (Pred g ds)
    at true h e = let z : ◌≡◌ {A = ℕ} 0 1 = cc in absurd (omega arith)
    at false h e = pred_waits g ds h
waits U B k (Eq a b) e s = at (has B a) (has B b) refl refl e
  where
    at : (p q : Bool) → has B a ≡ p → has B b ≡ q → lower_eq p q B a b ≡ none → Waits U B (Eq a b)
    at true true h g e = let z : ◌≡◌ {A = ℕ} 0 1 = cc in absurd (omega arith)
    at true false h g e = let z : ◌≡◌ {A = ℕ} 0 1 = cc in absurd (omega arith)
    at false true h g e = let z : ◌≡◌ {A = ℕ} 0 1 = cc in absurd (omega arith)
    at false false h g e = eq_waits a b h g
waits U B k (EqGlobal a g) e s = at (has B a) e
  where
    at : (p : Bool) → lower_eq_global p B a g ≡ none → Waits U B (EqGlobal a g)
    at true e = let z : ◌≡◌ {A = ℕ} 0 1 = cc in absurd (omega arith)
    at false e = let z : ◌≡◌ {A = ℕ} 0 1 = cc in absurd (omega arith)

pub mem_at : (qs : List Atom) (a : Atom) → Memᴰ a qs → At (length qs) (atom_of qs) a
unfolding atom_of
mem_at [] a m = absurd (Memᴰ.not-nil m)
mem_at (x ∷ qs) a m = at (Memᴰ.cases_cons m) (λ k. mem_at qs a k)
  where
    at : (a ≡ x) ⊎ Memᴰ a qs → (Memᴰ a qs → At (length qs) (atom_of qs) a) → At (suc (length qs)) (atom_of (x ∷ qs)) a
    at (inl e) r = record { place = 0; below = omega arith; is = e }
    at (inr k) r = let q = r k in record { place = suc q.place; below = omega (arith, q.below); is = q.is }

pub number_mem : (qs : List Atom) (i : ℕ) → Memᴰ i (numbers qs) → Memᴰ (atom_of qs i) qs
unfolding atom_of
number_mem qs i m = let q = tabulate_mem (length qs) (λ j. j) i m in get_d_mem qs i (Eq 0 0) (rw q.is q.below)

module _ (qs : List Atom) {X : Type 0} (choose : X → State → Chosen X) (x : X) (fair : Fair (atom_of qs) (numbers qs) choose) where
  pub reached : Reached (atom_of qs) (numbers qs) (schedule qs choose x)
  reached = rounds_reached (atom_of qs) (numbers qs) choose fair (suc (unlowered blank (numbers qs))) x unplanned fresh

  -- what is not lowered waits
  pub left_waits : (i : ℕ) → i < length qs → has (schedule qs choose x).used i ≡ false → Waits (schedule qs choose x).used (schedule qs choose x).bound (atom_of qs i)
  left_waits i h u =
      let e = rounds_ended (atom_of qs) (numbers qs) choose fair (suc (unlowered blank (numbers qs))) x unplanned (omega arith) in
      let m = mem_tabulate (length qs) (λ j. j) i h in
      waits (schedule qs choose x).used (schedule qs choose x).bound i (atom_of qs i) (e.idle i m u) (e.noscan i m u)
