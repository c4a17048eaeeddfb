-- What a step leaves, by its kind. Assumes nothing.
use Prim.Native.Nat.{ℕ, zero, suc, ◌+◌, ◌-◌, ◌<◌, ◌≤◌}
use mathlib.Core.Path.{◌≡◌, refl, sym, ◌∙◌, ap}
use mathlib.Core.Bool.{Bool, true, false}
use mathlib.Core.List.{List, [], ◌∷◌, map}
use native.Mathlib.Omega.{arith}
use lib.Dec.{eqb}
use lib.ListN.{length, get_or, set, length-set}
use borrow.Author.Tests.{ne_eqb, lt-ltb, eqb-true}
use Rattle.hexadecimal.specs.Choose.{pick}
use Rattle.join_tests.specs.Atoms.{Step, Join, ExtractChild, CheckChildEq, CheckEq, CheckEqGlobal, BindGlobal, CopyBinding, Expand, ExtractLitVal, CheckLit, CheckPred, is_join}
use Rattle.join_tests.proofs.Bools.{true_false}
use Rattle.join_tests.specs.Bound.{Bound, add, put}
use Rattle.join_tests.specs.Reading.{bound_by, picked_by}
use Rattle.join_tests.specs.Refusing.{join_op, runnable, ops_by}
use Rattle.step_tests.specs.StepFrames.{step_of}
use Rattle.step_tests.proofs.StepsRead.{no_join}
use Rattle.join_tests.specs.Arrays.{is_bound, is_picked, bound_in, picked_in, ops_in}
use Rattle.join_tests.specs.RecordsLookups.{lookups_of}
use Rattle.validation.specs.Marks.{binds_target, bound_mark, Markable, Stepped}

-- ---- one mark

-- what the marks say, where one is set
map_put : {A : Type 0} (d : A) (f : ℕ → A) (M : List ℕ) (v x : ℕ) → v < length M → map f (set M v x) ≡ put d (map f M) v (f x)
unfolding put
map_put d f [] v x h = absurd (omega arith)
map_put d f (m ∷ M) zero x h = refl
map_put {A} d f (m ∷ M) (suc v) x h = ap (λ (l : List A). f m ∷ l) (map_put d f M v x (omega arith))

-- what they say stays, where the mark says the same
map_same : {A : Type 0} (f : ℕ → A) (M : List ℕ) (v x : ℕ) → f x ≡ f (get_or M v 0) → map f (set M v x) ≡ map f M
map_same f [] v x h = refl
map_same {A} f (m ∷ M) zero x h = ap (λ (y : A). y ∷ map f M) h
map_same {A} f (m ∷ M) (suc v) x h = ap (λ (l : List A). f m ∷ l) (map_same f M v x h)

-- a mark that is bound says as before who was picked
kept : {A : Type 0} (f : ℕ → A) (m : ℕ) → f 1 ≡ f 0 → f (bound_mark m) ≡ f m
kept f zero h = h
kept f (suc m) h = rw (ne_eqb (suc m) 0 (λ e. omega arith))

bound_some : (m : ℕ) → is_bound (bound_mark m) ≡ true
bound_some zero = refl
bound_some (suc m) = rw (ne_eqb (suc m) 0 (λ e. omega arith), ne_eqb (suc m) 0 (λ e. omega arith))

-- ---- steps that are no Join

picks_none : (s : Step) (R : Bound) → is_join s ≡ false → R ≡ picked_by s R
picks_none (Join v k ls) R h = true_false refl h
picks_none (ExtractChild v p i) R h = refl
picks_none (CheckChildEq p i c) R h = refl
picks_none (CheckEq a b) R h = refl
picks_none (CheckEqGlobal a g) R h = refl
picks_none (BindGlobal v g) R h = refl
picks_none (CopyBinding v o) R h = refl
picks_none (Expand n cs x) R h = refl
picks_none (ExtractLitVal n l) R h = refl
picks_none (CheckLit n x) R h = refl
picks_none (CheckPred g) R h = refl

keeps_ops : (s : Step) (O : List ℕ) → is_join s ≡ false → O ≡ ops_by s O
keeps_ops (Join v k ls) O h = true_false refl h
keeps_ops (ExtractChild v p i) O h = refl
keeps_ops (CheckChildEq p i c) O h = refl
keeps_ops (CheckEq a b) O h = refl
keeps_ops (CheckEqGlobal a g) O h = refl
keeps_ops (BindGlobal v g) O h = refl
keeps_ops (CopyBinding v o) O h = refl
keeps_ops (Expand n cs x) O h = refl
keeps_ops (ExtractLitVal n l) O h = refl
keeps_ops (CheckLit n x) O h = refl
keeps_ops (CheckPred g) O h = refl

-- ---- a frame

-- a choice of two steps that bind nothing, where they are run
binds_none : (B : Bound) (t : Bool) (s u : Step) → (runnable s ≡ true → B ≡ bound_by s B) → (runnable u ≡ true → B ≡ bound_by u B) → runnable (pick t s u) ≡ true → B ≡ bound_by (pick t s u) B
binds_none B true s u p q = p
binds_none B false s u p q = q

module _ (f M : List ℕ) (o : ℕ) (m : Markable f o M) (k w v : ℕ) (is : k ≡ get_or f 0 0) (ew : w ≡ get_or f 1 0) (ev : v ≡ w) where
  target : v ≡ get_or f 1 0
  target = ev ∙ ew

  target_below : 0x40 ≤ k → k ≤ 0x46 → v < 64
  target_below h g = rw target (m.target.below (rw is at h) (rw is at g))

  module _ (j : k ≡ 0x40) where
    pub join_below : v < length M
    join_below = omega (arith, target_below (omega arith) (omega arith), m.size)

    pub join_marked : (x : ℕ) → x ≡ 2 + o → Stepped f M (set M v x)
    unfolding step_of bound_in picked_in ops_in
    join_marked x e =
        let q : x - 2 ≡ join_op (lookups_of f) = let p : o ≡ join_op (lookups_of f) = m.op (sym is ∙ j) in omega arith in
        record {
          bound = map_put false is_bound M v x join_below ∙ rw (← is, j, ← target, ne_eqb x 0 (λ z. omega arith));
          picked = map_put false is_picked M v x join_below ∙ rw (← is, j, ← target, lt-ltb 1 x (omega arith));
          ops = map_put 0 (λ (y : ℕ). y - 2) M v x join_below ∙ rw (← is, j, ← target, q);
          size = length-set M v x ∙ m.size;
        }

  module _ (j : k ≡ 0x40 → ⊥) (b : Bool) (eb : b ≡ binds_target k) where
    -- the kinds that bind
    kinds : {X : Type 0} → b ≡ true → (k ≡ 0x41 → X) → (k ≡ 0x45 → X) → (k ≡ 0x46 → X) → X
    kinds {X} h p q r = by (eqb k 0x41) refl (eqb k 0x45) refl (sym eb ∙ h)
      where
        by : (x : Bool) → eqb k 0x41 ≡ x → (y : Bool) → eqb k 0x45 ≡ y → pick x true (pick y true (eqb k 0x46)) ≡ true → X
        by true e y d g = p (eqb-true k 0x41 e)
        by false e true d g = q (eqb-true k 0x45 d)
        by false e false d g = r (eqb-true k 0x46 g)

    other : is_join (step_of f) ≡ false
    other = no_join f k is j

    pub bind_below : b ≡ true → v < length M
    bind_below h = kinds h (λ e. omega (arith, target_below (omega arith) (omega arith), m.size)) (λ e. omega (arith, target_below (omega arith) (omega arith), m.size)) (λ e. omega (arith, target_below (omega arith) (omega arith), m.size))

    bound_by_lem : (B : Bound) → b ≡ true → add B v ≡ bound_by (step_of f) B
    unfolding step_of
    bound_by_lem B h = kinds h (λ e. rw (← is, e, target)) (λ e. rw (← is, e, target)) (λ e. rw (← is, e, target))

    pub bind_marked : (x : ℕ) → b ≡ true → x ≡ bound_mark (get_or M v 0) → Stepped f M (set M v x)
    unfolding bound_in picked_in ops_in
    bind_marked x h e = record {
      bound = map_put false is_bound M v x (bind_below h) ∙ rw (e, bound_some (get_or M v 0)) (bound_by_lem (map is_bound M) h);
      picked = map_same is_picked M v x (rw e (kept is_picked (get_or M v 0) refl)) ∙ picks_none (step_of f) (map is_picked M) other;
      ops = map_same (λ (y : ℕ). y - 2) M v x (rw e (kept (λ (y : ℕ). y - 2) (get_or M v 0) refl)) ∙ keeps_ops (step_of f) (map (λ (y : ℕ). y - 2) M) other;
      size = length-set M v x ∙ m.size;
    }

    unbound_by : (B : Bound) → binds_target k ≡ false → B ≡ bound_by (step_of f) B
    unfolding step_of
    unbound_by B h = by (eqb k 0x41) refl (eqb k 0x45) refl (eqb k 0x46) refl h
      where
        by : (x : Bool) → eqb k 0x41 ≡ x → (y : Bool) → eqb k 0x45 ≡ y → (z : Bool) → eqb k 0x46 ≡ z → pick x true (pick y true z) ≡ false → B ≡ bound_by (step_of f) B
        by true e y d z c g = true_false refl g
        by false e true d z c g = true_false refl g
        by false e false d true c g = true_false refl g
        by false e false d false c g =
            rw (← is, ne_eqb k 0x40 j, e, d, c)
            (binds_none B (eqb k 0x42) _ _ (λ r. refl) (binds_none B (eqb k 0x43) _ _ (λ r. refl) (binds_none B (eqb k 0x44) _ _ (λ r. refl)
            (binds_none B (eqb k 0x47) _ _ (λ r. true_false r refl) (binds_none B (eqb k 0x48) _ _ (λ r. true_false r refl) (binds_none B (eqb k 0x49) _ _ (λ r. true_false r refl)
            (binds_none B (eqb k 0x4a) _ _ (λ r. refl) (binds_none B (eqb k 0x4b) _ _ (λ r. refl) (λ r. refl))))))))
            (rw (← is, ne_eqb k 0x40 j, e, d, c) at m.runs))

    pub none_marked : b ≡ false → Stepped f M M
    none_marked h = record {
      bound = unbound_by (bound_in M) (sym eb ∙ h);
      picked = picks_none (step_of f) (picked_in M) other;
      ops = keeps_ops (step_of f) (ops_in M) other;
      size = m.size;
    }
