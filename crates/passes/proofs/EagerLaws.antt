-- An eager pass, atom by atom. Proved by what each try does, and by composition.
use Prim.Native.Nat.{ℕ, ◌+◌, ◌-◌, ◌<◌, ◌≤◌}
use mathlib.Core.Path.{◌≡◌, refl, sym, ◌∙◌, ap, subst}
use mathlib.Core.Bool.{Bool, true, false, not}
use mathlib.Core.Option.{Option, none, some}
use mathlib.Core.Logic.{◌⊎◌, inl, inr}
use mathlib.Core.List.Memᴰ
use mathlib.Core.List.{List, [], ◌∷◌, ◌++◌, append-nil, append_assoc, Memᴰ}
use native.Mathlib.Omega.{arith}
use native.Mathlib.Numerals.{add-one}
use lib.Dec.{T, eqb}
use borrow.Author.Tests.{eq-eqb, ne_eqb, eqb-true, eqb-false, not-true, not-false}
use Rattle.fields.specs.Choose.{pick}
use lib.ListN.{length, get_or, take, drop, set, length-set, length-append}
use lib.Seq.{take-suc, take-suc-set, take-length}
use Rattle.lowering.proofs.SheetLaws.{frame_part}
use Rattle.lowering.specs.Sheet.{frame_at}
use Rattle.lowering.specs.Atoms.{Atom, Step}
use Rattle.lowering.proofs.TabulateLaws.{tabulate_at, tabulate_length}
use Rattle.lowering.specs.Bound.{Bound, has, add, add_all, bound_most}
use Rattle.lowering.specs.Lowering.{Emitted, lower, Lowered, done, more}
use Rattle.lowering.specs.Scheduling.{State, is_free, unlowered, try_at, eager_pass, lower_eager, atom_of, numbers}
use Rattle.lowering.proofs.Scheduled.{unlowered_lt, lower_eager_is}
use Rattle.lowering.specs.QueryAtoms.{atom_of_frame}
use Rattle.lowering.specs.AtomLines.{lowers, bound_behind, Lowers}
use Rattle.passes.specs.Eager.{state, Went, Tries, sheet_atoms, Lined, Located, Ready, Passed, LoweredEager}
use Rattle.lowering.proofs.SetLaws.{add_size}
use Rattle.passes.proofs.LocatedLaws.{number_among}

-- ---- composition

module _ (atomAt : ℕ → Atom) (js : List ℕ) where
  -- nothing is taken
  went_none : (go : State → State) (U B : Bound) (O : List ℕ) (c : ℕ) → ((ss : List Step) → go (state U B ss) ≡ state U B ss) → Went atomAt js go U B O c U B O c
  unfolding add_all
  went_none go U B O c h = record {
    new = [];
    steps = [];
    lowered = done;
    is = λ ss. h ss ∙ ap (state U B) (sym (append-nil ss));
    used = refl;
    known = λ k m. absurd (Memᴰ.not-nil m);
    order = sym (append-nil (take c O));
    count = omega arith;
    left = omega arith;
    used_size = refl;
    bound_size = refl;
    order_size = refl;
  }

  pub lowered_then : {B C D : Bound} {ss ts : List Step} {ks ls : List ℕ} → Lowered atomAt B ss C ks → Lowered atomAt C ts D ls → Lowered atomAt B (ss ++ ts) D (ks ++ ls)
  lowered_then done b = b
  lowered_then {ts = ts} (more k l {ss} e r) b = rw (append_assoc l.steps ss ts) (more k l e (lowered_then r b))

  add_append : (Y : Bound) (ks ls : List ℕ) → add_all Y (ks ++ ls) ≡ add_all (add_all Y ks) ls
  unfolding add_all
  add_append Y [] ls = refl
  add_append Y (k ∷ ks) ls = add_append (add Y k) ks ls

  pub went_then : (f g : State → State) {U B : Bound} {O : List ℕ} {c : ℕ} {U' C : Bound} {P : List ℕ} {d : ℕ} {U'' D : Bound} {Q : List ℕ} {e : ℕ} → Went atomAt js f U B O c U' C P d → Went atomAt js g U' C P d U'' D Q e → Went atomAt js (λ st. g (f st)) U B O c U'' D Q e
  went_then f g {U} {B} {O} {c} {U'} {C} {P} {d} {U''} {D} {Q} {e} a b = record {
    new = a.new ++ b.new;
    steps = a.steps ++ b.steps;
    lowered = lowered_then a.lowered b.lowered;
    is = λ ss. ap g (a.is ss) ∙ b.is (ss ++ a.steps) ∙ ap (state U'' D) (append_assoc ss a.steps b.steps);
    used = b.used ∙ ap (λ (Y : Bound). add_all Y b.new) a.used ∙ sym (add_append U a.new b.new);
    known = λ k m. from k (Memᴰ.append_cases a.new m);
    order = b.order ∙ ap (λ (l : List ℕ). l ++ b.new) a.order ∙ append_assoc (take c O) a.new b.new;
    count = omega (arith, a.count, b.count, length-append a.new b.new);
    left = omega (arith, a.left, b.left);
    used_size = b.used_size ∙ a.used_size;
    bound_size = b.bound_size ∙ a.bound_size;
    order_size = b.order_size ∙ a.order_size;
  }
    where
      from : (k : ℕ) → Memᴰ k a.new ⊎ Memᴰ k b.new → Memᴰ k js
      from k (inl m) = a.known k m
      from k (inr m) = b.known k m

  -- one atom is lowered
  pub went_one : (go : State → State) (i : ℕ) (U B : Bound) (O : List ℕ) (c : ℕ) (U' C : Bound) (x : Emitted) → lower B i (atomAt i) ≡ some x → x.bound ≡ C → U' ≡ add U i → has U i ≡ false → Memᴰ i js → i < length U → c < length O → length C ≡ length B
      → ((ss : List Step) → go (state U B ss) ≡ state (add U i) x.bound (ss ++ x.steps)) → Went atomAt js go U B O c U' C (set O c i) (c + 1)
  unfolding add_all
  went_one go i U B O c U' C x p y v unused m below room size g = record {
    new = i ∷ [];
    steps = x.steps ++ [];
    lowered = more i x p (subst (λ (D : Bound). Lowered atomAt x.bound [] D []) y done);
    is = λ ss. rw (append-nil x.steps) (g ss ∙ (λ j. state (sym v j) (y j) (ss ++ x.steps)));
    used = v;
    known = λ k n. only k (Memᴰ.cases_cons n);
    order = rw (add-one c) (take-suc-set O c i room);
    count = refl;
    left = rw v (omega (arith, unlowered_lt U i js unused m));
    used_size = ap length v ∙ add_size U i below;
    bound_size = size;
    order_size = length-set O c i;
  }
    where
      only : (k : ℕ) → (k ≡ i) ⊎ Memᴰ k [] → Memᴰ k js
      only k (inl z) = subst (λ (n : ℕ). Memᴰ n js) (sym z) m
      only k (inr z) = absurd (Memᴰ.not-nil z)

-- ---- one atom

module _ (f : List ℕ) (i : ℕ) (U B : Bound) (O : List ℕ) (c : ℕ) (t : Bool) (is : t ≡ has U i) where
  pub tried_used : t ≡ true → Tries f i U B O c U B O c
  tried_used h = record { went = λ at js e m. went_none at js (try_at at js i) U B O c (λ ss. rw (sym is ∙ h)) }

  module _ (new : t ≡ false) (q : Bool) (free : q ≡ is_free U B (atom_of_frame f)) where
    pub tried_not_free : not q ≡ true → Tries f i U B O c U B O c
    tried_not_free h = record { went = λ at js e m. went_none at js (try_at at js i) U B O c (λ ss. rw (sym is ∙ new, e, sym free ∙ not-true q h)) }

    module _ (h : not q ≡ false) (C : Bound) (r : Bool) (l : Lowers B (atom_of_frame f) r C) where
      waits_same : (o : Option Emitted) → lowers o ≡ r → bound_behind B o ≡ C → r ≡ false → (o ≡ none) × (B ≡ C)
      waits_same none p b z = (refl, b)
      waits_same (some x) p b z = absurd (subst T (p ∙ z) tt)

      pub tried_waits : not r ≡ true → Tries f i U B O c U C O c
      tried_waits g =
          let w = waits_same (lower B i (atom_of_frame f)) (l.is i) (l.bound i) (not-true r g) in
          rw (← w.1) (record { went = λ at js e m. went_none at js (try_at at js i) U B O c (λ ss. rw (sym is ∙ new, e, sym free ∙ not-false q h, w.0)) })

      pub tried_takes : (U' : Bound) → not r ≡ false → U' ≡ add U i → i < length U → c < length O → Tries f i U B O c U' C (set O c i) (c + 1)
      tried_takes U' g v below room = record { went = λ at js e m. at_some at js e m (lower B i (atom_of_frame f)) refl }
        where
          at_some : (at : ℕ → Atom) (js : List ℕ) → at i ≡ atom_of_frame f → Memᴰ i js → (o : Option Emitted) → lower B i (atom_of_frame f) ≡ o → Went at js (try_at at js i) U B O c U' C (set O c i) (c + 1)
          at_some at js e m none p = absurd (subst T (sym (ap lowers (sym p) ∙ l.is i ∙ not-false r g)) tt)
          at_some at js e m (some x) p =
              went_one at js (try_at at js i) i U B O c U' C x (rw e p) (ap (bound_behind B) (sym p) ∙ l.bound i) v (sym is ∙ new) m below room l.size (λ ss. rw (sym is ∙ new, e, sym free ∙ not-false q h, p))

pub has_room : (i : ℕ) (U : Bound) (O : List ℕ) (c : ℕ) (t : Bool) → t ≡ has U i → t ≡ false → (has U i ≡ false → c < length O) → c < length O
has_room i U O c t is h room = room (sym is ∙ h)

-- ---- the line of an atom

-- by its two places
module _ (x from : List ℕ) (k at e : ℕ) (p : at ≡ get_or from k 0) (q : e ≡ get_or from (k + bound_most) 0) (l : Lined x from k) where
  ends : e ≡ at + length (frame_at x at)
  ends = q ∙ l.ends ∙ rw (← p)

  pub line_ordered : at ≤ e
  line_ordered = omega (arith, ends)

  pub line_within : e ≤ length x
  line_within = rw q l.within

  pub line_is : take (e - at) (drop at x) ≡ frame_at x (get_or from k 0)
  line_is = let z : e - at ≡ length (frame_at x at) = omega (arith, ends) in rw (← p, z) (frame_part x at)

-- ---- a pass

-- i atoms are tried
pub record Passing (x : List ℕ) (n : ℕ) (U₀ B₀ : Bound) (O₀ : List ℕ) (c₀ : ℕ) (U B : Bound) (O : List ℕ) (c i : ℕ) : Type 0 where
  pub few : i ≤ n
  pub went : Went (atom_of (sheet_atoms x)) (numbers (sheet_atoms x)) (eager_pass (atom_of (sheet_atoms x)) (numbers (sheet_atoms x)) (take i (numbers (sheet_atoms x)))) U₀ B₀ O₀ c₀ U B O c

pub passing_none : (x : List ℕ) (n : ℕ) (U B : Bound) (O : List ℕ) (c : ℕ) → Passing x n U B O c U B O c 0
unfolding eager_pass
passing_none x n U B O c = record { few = omega arith; went = went_none _ _ (eager_pass (atom_of (sheet_atoms x)) (numbers (sheet_atoms x)) []) U B O c (λ ss. refl) }

pass_append : (at : ℕ → Atom) (js ks ls : List ℕ) (st : State) → eager_pass at js (ks ++ ls) st ≡ eager_pass at js ls (eager_pass at js ks st)
unfolding eager_pass
pass_append at js [] ls st = refl
pass_append at js (k ∷ ks) ls st = pass_append at js ks ls (try_at at js k st)

pass_snoc : (at : ℕ → Atom) (js ks : List ℕ) (i : ℕ) → eager_pass at js (ks ++ i ∷ []) ≡ (λ st. try_at at js i (eager_pass at js ks st))
unfolding eager_pass
pass_snoc at js ks i = λ j st. pass_append at js ks (i ∷ []) st j

module _ (x from : List ℕ) (n : ℕ) (U₀ B₀ : Bound) (O₀ : List ℕ) (c₀ : ℕ) (U B : Bound) (O : List ℕ) (c i : ℕ) (p : Passing x n U₀ B₀ O₀ c₀ U B O c i) (z : Located x from n) where
  module _ (h : i < n) where
    number : get_or (numbers (sheet_atoms x)) i 0 ≡ i
    number = tabulate_at (length (sheet_atoms x)) (λ k. k) i 0 (rw (← z.count) h)

    within : i < length (numbers (sheet_atoms x))
    within = rw (tabulate_length (length (sheet_atoms x)) (λ k. k), ← z.count) h

    one_more : take (i + 1) (numbers (sheet_atoms x)) ≡ take i (numbers (sheet_atoms x)) ++ i ∷ []
    one_more = rw (add-one i, take-suc (numbers (sheet_atoms x)) i 0 within, number)

    module _ (l : List ℕ) (v : ℕ) (line : l ≡ frame_at x (get_or from i 0)) (narrow : v ≡ i) where
      pub number_below : Ready x U₀ B₀ O₀ c₀ → v < length U
      number_below r = omega (arith, p.went.used_size, r.used, z.few)

      pub order_room : Ready x U₀ B₀ O₀ c₀ → (has U v ≡ false → c < length O)
      order_room r g =
          let k = unlowered_lt U i (numbers (sheet_atoms x)) (rw narrow at g) (number_among x from n z i h) in
          omega (arith, p.went.left, p.went.order_size, r.room, r.order)

      pub passing_again : (U' C : Bound) (P : List ℕ) (d : ℕ) → Tries l v U B O c U' C P d → Passing x n U₀ B₀ O₀ c₀ U' C P d (i + 1)
      passing_again U' C P d t = record {
        few = omega arith;
        went = rw (one_more, pass_snoc (atom_of (sheet_atoms x)) (numbers (sheet_atoms x)) (take i (numbers (sheet_atoms x))) i)
            (went_then (atom_of (sheet_atoms x)) (numbers (sheet_atoms x)) (eager_pass (atom_of (sheet_atoms x)) (numbers (sheet_atoms x)) (take i (numbers (sheet_atoms x)))) (try_at (atom_of (sheet_atoms x)) (numbers (sheet_atoms x)) i) p.went
            ((rw (narrow, line) at t).went (atom_of (sheet_atoms x)) (numbers (sheet_atoms x)) (z.is i h) (number_among x from n z i h)));
      }

  pub bound_sized : Ready x U₀ B₀ O₀ c₀ → length B ≡ bound_most
  bound_sized r = p.went.bound_size ∙ r.bound

  pub passed : n ≤ i → Passed x U₀ B₀ O₀ c₀ U B O c
  passed h =
      let e : i ≡ length (numbers (sheet_atoms x)) = omega (arith, p.few, z.count, tabulate_length (length (sheet_atoms x)) (λ k. k)) in
      rw (e, take-length (numbers (sheet_atoms x))) at p.went

-- ---- passes until one lowers nothing

-- by another function that goes the same way
went_same : (atomAt : ℕ → Atom) (js : List ℕ) (f g : State → State) (U B : Bound) (O : List ℕ) (c : ℕ) (U' C : Bound) (P : List ℕ) (d : ℕ) → ((ss : List Step) → f (state U B ss) ≡ g (state U B ss)) → Went atomAt js g U B O c U' C P d → Went atomAt js f U B O c U' C P d
went_same atomAt js f g U B O c U' C P d h w = record {
  new = w.new;
  steps = w.steps;
  lowered = w.lowered;
  is = λ ss. h ss ∙ w.is ss;
  used = w.used;
  known = w.known;
  order = w.order;
  count = w.count;
  left = w.left;
  used_size = w.used_size;
  bound_size = w.bound_size;
  order_size = w.order_size;
}

module _ (x : List ℕ) where
  abbrev at : ℕ → Atom
  at = atom_of (sheet_atoms x)

  abbrev js : List ℕ
  js = numbers (sheet_atoms x)

  abbrev pass : State → State
  pass = eager_pass at js js

  -- a pass that takes nothing is the last
  module _ (U B : Bound) (O : List ℕ) (c : ℕ) (U' C : Bound) (P : List ℕ) (d : ℕ) (w : Passed x U B O c U' C P d) (ss : List Step) where
    last_pass : d ≡ c → lower_eager at js (state U B ss) ≡ pass (state U B ss)
    unfolding add_all
    last_pass h = lower_eager_is at js (state U B ss) ∙ rw (eq-eqb _ _ same)
      where
        none_new : (l : List ℕ) → length l ≡ 0 → add_all U l ≡ U
        none_new [] e = refl
        none_new (k ∷ l) e = absurd (omega arith)

        same : unlowered (pass (state U B ss)).used js ≡ unlowered U js
        same = ap (λ (s : State). unlowered s.used js) (w.is ss) ∙ ap (λ (Y : Bound). unlowered Y js) (w.used ∙ none_new w.new (omega (arith, w.count)))

    more_passes : (d ≡ c → ⊥) → lower_eager at js (state U B ss) ≡ lower_eager at js (pass (state U B ss))
    more_passes h = lower_eager_is at js (state U B ss) ∙ rw (ne_eqb _ _ fewer)
      where
        fewer : unlowered (pass (state U B ss)).used js ≡ unlowered U js → ⊥
        fewer e =
            let f : unlowered U' js ≡ unlowered U js = rw (w.is ss) at e in
            h (omega (arith, w.left, w.count))

  -- `go` is the passes so far; more are to come unless the last took nothing
  pub record Repeating (U₀ B₀ : Bound) (O₀ : List ℕ) (c₀ : ℕ) (U B : Bound) (O : List ℕ) (c : ℕ) (more : Bool) : Type 0 where
    pub go : State → State
    pub went : Went (atom_of (sheet_atoms x)) (numbers (sheet_atoms x)) go U₀ B₀ O₀ c₀ U B O c
    pub last : more ≡ false → (ss : List Step) → lower_eager (atom_of (sheet_atoms x)) (numbers (sheet_atoms x)) (state U₀ B₀ ss) ≡ go (state U₀ B₀ ss)
    pub again : more ≡ true → (ss : List Step) → lower_eager (atom_of (sheet_atoms x)) (numbers (sheet_atoms x)) (state U₀ B₀ ss) ≡ lower_eager (atom_of (sheet_atoms x)) (numbers (sheet_atoms x)) (go (state U₀ B₀ ss))

  pub no_pass : (U B : Bound) (O : List ℕ) (c : ℕ) → Repeating U B O c U B O c true
  no_pass U B O c = record { go = λ st. st; went = went_none at js (λ st. st) U B O c (λ ss. refl); last = λ h. absurd (subst T h tt); again = λ h ss. refl }

  module _ (U₀ B₀ : Bound) (O₀ : List ℕ) (c₀ : ℕ) (U B : Bound) (O : List ℕ) (c : ℕ) (more : Bool) (r : Repeating U₀ B₀ O₀ c₀ U B O c more) where
    pub ready_again : Ready x U₀ B₀ O₀ c₀ → Ready x U B O c
    ready_again y = record { used = r.went.used_size ∙ y.used; bound = r.went.bound_size ∙ y.bound; order = r.went.order_size ∙ y.order; room = omega (arith, r.went.left, y.room) }

    pub no_more : more ≡ false → LoweredEager x U₀ B₀ O₀ c₀ U B O c
    no_more h = went_same at js (lower_eager at js) r.go U₀ B₀ O₀ c₀ U B O c (r.last h) r.went

    module _ (h : more ≡ true) (U' C : Bound) (P : List ℕ) (d : ℕ) (w : Passed x U B O c U' C P d) where
      pub fewer_left : unlowered U' (numbers (sheet_atoms x)) + pick (not (eqb d c)) 1 0 < unlowered U (numbers (sheet_atoms x)) + pick more 1 0
      fewer_left = rw h (by (eqb d c) refl)
        where
          by : (t : Bool) → eqb d c ≡ t → unlowered U' (numbers (sheet_atoms x)) + pick (not t) 1 0 < unlowered U (numbers (sheet_atoms x)) + 1
          by true e = omega (arith, w.left, w.count)
          by false e = let k : (d ≡ c → ⊥) = eqb-false d c e in omega (arith, w.left, w.count, above w.count k)
            where
              above : d ≡ c + length w.new → (d ≡ c → ⊥) → c < d
              above p k = omega arith

      pub next_pass : Repeating U₀ B₀ O₀ c₀ U' C P d (not (eqb d c))
      next_pass = record {
        go = λ st. pass (r.go st);
        went = went_then at js r.go pass r.went w;
        last = λ k ss. r.again h ss ∙ ap (lower_eager at js) (r.went.is ss) ∙ last_pass U B O c U' C P d w (ss ++ r.went.steps) (eqb-true d c (not-false (eqb d c) k)) ∙ ap pass (sym (r.went.is ss));
        again = λ k ss. r.again h ss ∙ ap (lower_eager at js) (r.went.is ss) ∙ more_passes U B O c U' C P d w (ss ++ r.went.steps) (eqb-false d c (not-true (eqb d c) k)) ∙ ap (λ (s : State). lower_eager at js (pass s)) (sym (r.went.is ss));
      }
