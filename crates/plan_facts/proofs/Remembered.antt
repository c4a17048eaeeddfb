-- What the rounds of the scheduler remember. Each law is by induction over the code's definition, for any property of the tally that a
-- measured key keeps: the memo only grows, the tallies stay within it, and it has at most 1,024 keys.
use Rattle.std.specs.Prelude.{Some, None}
use Rattle.std.specs.Prelude.{Option as OptionOf, Float}
use Rattle.cost.specs.Settings.{Sampled}
use Prim.Native.Nat.{ℕ, zero, suc, ◌*◌, ◌≤◌}
use mathlib.Core.Path.{◌≡◌, refl, sym, ◌∙◌}
use mathlib.Core.Logic.{◌⊎◌, inl, inr, ◌≢◌}
use mathlib.Core.Bool.{Bool, true, false}
use mathlib.Core.Option.{Option, none, some}
use mathlib.Core.List.Memᴰ
use mathlib.Core.List.{List, [], ◌∷◌, ◌++◌, flat_map, Memᴰ}
use native.Mathlib.Omega.{arith}
use lib.ListN.{length, length-append}
use borrow.Author.Tests.{eq-eqb}
use lib.Ieee.{lt}
use Rattle.reading_facts.specs.Choose.{pick}
use Rattle.reading_facts.proofs.ChooseLaws.{pick_elim}
use Rattle.reading_facts.specs.Limits.{items_most, atoms_most}
use Rattle.cost.specs.SamplerConfig.{SamplerConfig}
use Rattle.cost.specs.Statistics.{settings}
use Rattle.plans.specs.Atoms.{Operand, local, global, wild, Atom, Plain, Lit, LitBind, Eq, EqGlobal, Pred, Variadic}
use Rattle.cost.proofs.Bools.{both, true_false}
use Rattle.plans.specs.Lists.{Pairs}
use Rattle.plans.proofs.ListsLaws.{from, into}
use Rattle.plans.specs.Bound.{Bound, has}
use Rattle.plans.specs.Lowering.{pv_is_bound}
use Rattle.plans.specs.Scheduling.{State, Chosen, atom_of, numbers, lower_eager, emit_at, go_on, rounds_up_to, unplanned}
use Rattle.plans.specs.Cheapest.{Priced, Bid, Scan, scan, cheapest, better, is_candidate}
use Rattle.cost.specs.declared.probes.Key.{Key}
use Rattle.cost.specs.Emitters.{Emitter, Emitters, emitter_of}
use Rattle.cost.specs.Sampling.{Tally, same_key, is_known, measure, tally_of, after_estimate}
use Rattle.cost.specs.Costs.{Costed, sampled, sampled_by, estimate, child_costs, element_costs, estimate_cost}
use Rattle.cost.specs.Choice.{Memory, fresh, recorded, cost, emitted_by, by_cost, choose, rounds_from, rounds}
use Rattle.plans.specs.Items.{Each}
use Rattle.plan_facts.proofs.Emitted.{Keeps, atom_keeps, record_keeps}
use Rattle.plan_facts.proofs.Pigeonhole.{no_longer}
use Rattle.cost.specs.Memo.{keys_most}

-- ---- the keys that are asked for

-- the key of an operand with the emitter e: "(emitter, site, probe operator, path)"
abbrev pub key_by : Option Emitter → ℕ → ℕ → ℕ → List Key
key_by none o path place = []
key_by (some e) o path place = record { emitter = e.atom; site = e.site; position = e.position; op = o; path = path; place = place } ∷ []

-- a global has no emitter
abbrev pub key_for : Emitters → Operand → ℕ → ℕ → ℕ → List Key
key_for em (local v) o path place = key_by (emitter_of em v) o path place
key_for em (global g) o path place = []
key_for em wild o path place = []

-- of the children from position p on
unfoldable pub child_keys : Emitters → ℕ → ℕ → List Operand → List Key
child_keys em o p [] = []
child_keys em o p (x ∷ xs) = key_for em x o 0 p ++ child_keys em o (suc p) xs

unfoldable pub element_keys : Emitters → ℕ → List Operand → List Key
element_keys em o [] = []
element_keys em o (x ∷ xs) = key_for em x o 1 0 ++ element_keys em o xs

abbrev pub atom_keys : Emitters → Atom → List Key
atom_keys em (Plain n o cs) = child_keys em o 0 cs
atom_keys em (Lit n o x) = []
atom_keys em (LitBind n o l) = []
atom_keys em (Eq a b) = []
atom_keys em (EqGlobal a g) = []
atom_keys em (Pred g ds) = []
atom_keys em (Variadic n o cs f) = element_keys em o cs

-- the operands that a cost may ask for
abbrev pub operands_of : Atom → List Operand
operands_of (Plain n o cs) = cs
operands_of (Lit n o x) = []
operands_of (LitBind n o l) = []
operands_of (Eq a b) = []
operands_of (EqGlobal a g) = []
operands_of (Pred g ds) = []
operands_of (Variadic n o cs f) = cs

-- ---- what a measured key keeps, every cost keeps

-- every element of l has the property A
abbrev pub All : (Key → Type 0) → List Key → Type 0
All A l = (k : Key) → Memᴰ k l → A k

module _ (fs : List (List ℕ)) (A : Key → Type 0) (P : Tally → Type 0) (step : (cfg : SamplerConfig) (k : Key) (t : Tally) → settings fs ≡ Some cfg → A k → P t → P (after_estimate fs cfg k t)) where
  estimate_keeps : (g : Sampled) (k : Key) (t : Tally) → settings fs ≡ g → A k → P t → P (estimate fs g k t).tally
  estimate_keeps None k t e a p = p
  estimate_keeps (Some cfg) k t e a p = step cfg k t e a p

  by_keeps : (e : Option Emitter) (o path place : ℕ) (t : Tally) → All A (key_by e o path place) → P t → P (sampled_by fs e o path place t).tally
  by_keeps none o path place t a p = p
  by_keeps (some e) o path place t a p = estimate_keeps (settings fs) _ t refl (a _ (Memᴰ.head refl)) p

  pub sampled_keeps : (em : Emitters) (x : Operand) (o path place : ℕ) (t : Tally) → All A (key_for em x o path place) → P t → P (sampled fs em x o path place t).tally
  sampled_keeps em (local v) o path place t a p = by_keeps (emitter_of em v) o path place t a p
  sampled_keeps em (global g) o path place t a p = p
  sampled_keeps em wild o path place t a p = p

  pub children_keep : (em : Emitters) (B : Bound) (o p : ℕ) (xs : List Operand) (c : Costed) → All A (child_keys em o p xs) → P c.tally → P (child_costs fs em B o p xs c).tally
  unfolding child_costs child_keys
  children_keep em B o p [] c a h = h
  children_keep em B o p (x ∷ xs) c a h =
      children_keep em B o (suc p) xs _ (λ k m. a k (Memᴰ.append_right (key_for em x o 0 p) m))
      (pick_elim (λ (d : Costed). P d.tally) (pv_is_bound B x) _ c (λ _. sampled_keeps em x o 0 p c.tally (λ k m. a k (Memᴰ.append_left (child_keys em o (suc p) xs) m)) h) (λ _. h))

  pub elements_keep : (em : Emitters) (B : Bound) (o : ℕ) (xs : List Operand) (c : Costed) → All A (element_keys em o xs) → P c.tally → P (element_costs fs em B o xs c).tally
  unfolding element_costs element_keys
  elements_keep em B o [] c a h = h
  elements_keep em B o (x ∷ xs) c a h =
      elements_keep em B o xs _ (λ k m. a k (Memᴰ.append_right (key_for em x o 1 0) m))
      (pick_elim (λ (d : Costed). P d.tally) (pv_is_bound B x) _ c (λ _. sampled_keeps em x o 1 0 c.tally (λ k m. a k (Memᴰ.append_left (element_keys em o xs) m)) h) (λ _. h))

  pub cost_keeps : (em : Emitters) (B : Bound) (i : ℕ) (a : Atom) (t : Tally) → All A (atom_keys em a) → P t → P (estimate_cost fs em B i a t).tally
  unfolding estimate_cost
  cost_keeps em B i (Plain n o cs) t a p = pick_elim (λ (d : Costed). P d.tally) (has B n) _ _ (λ _. p) (λ _. children_keep em B o 0 cs _ a p)
  cost_keeps em B i (Lit n o x) t a p = p
  cost_keeps em B i (LitBind n o l) t a p = p
  cost_keeps em B i (Eq x y) t a p = p
  cost_keeps em B i (EqGlobal x g) t a p = p
  cost_keeps em B i (Pred g ds) t a p = p
  cost_keeps em B i (Variadic n o cs f) t a p = pick_elim (λ (d : Costed). P d.tally) (has B n) _ _ (λ _. p) (λ _. elements_keep em B o cs _ a p)

-- ---- and the rounds: what the costs keep, the scan keeps
module _ (at : ℕ → Atom) {X C : Type 0} (price : X → State → ℕ → Priced X C) (less : C → C → Bool) (P : X → Type 0) (step : (x : X) (s : State) (i : ℕ) → P x → P (price x s i).next) where
  pub scan_keeps : (js ks : List ℕ) (s : State) (x : X) (b : Option (Bid C)) → P x → P (scan at js price less ks s x b).next
  unfolding scan
  scan_keeps js [] s x b p = p
  scan_keeps js (i ∷ ks) s x b p =
      pick_elim (λ (r : Scan X C). P r.next) (is_candidate s.used i (at i)) _ _
      (λ _. scan_keeps js ks s (price x s i).next (better at js price less i (price x s i).price b) (step x s i p))
      (λ _. scan_keeps js ks s x b p)

module _ (fs : List (List ℕ)) (qs : List Atom) (P : Memory → Type 0)
    (noted : (m : Memory) (s : State) → P m → P (recorded fs qs m s))
    (priced : (m : Memory) (s : State) (i : ℕ) → P m → P (cost fs qs m s i).next)
    (emitted : (o : Option ℕ) (s : State) (m : Memory) → P m → P (emitted_by fs qs o s m)) where
  pub loop_keeps : (n : ℕ) (m : Memory) (st : State) → P m → P (rounds_from fs qs n m st).memory
  unfolding rounds_up_to cheapest
  loop_keeps zero m st p = p
  loop_keeps (suc n) m st p =
      on (choose fs qs m s).at (choose fs qs m s).next (λ x r. loop_keeps n x r)
      (emitted c.at s c.next (scan_keeps (atom_of qs) (cost fs qs) lt P priced (numbers qs) (numbers qs) s (recorded fs qs m s) none (noted m s p)))
    where
      s : State
      s = lower_eager (atom_of qs) (numbers qs) st

      c : Chosen Memory
      c = by_cost fs qs (recorded fs qs m s) s

      on : (o : Option ℕ) (x : Memory) → ((y : Memory) (r : State) → P y → P (rounds_from fs qs n y r).memory) → P x → P (go_on (atom_of qs) (numbers qs) (rounds_from fs qs n) o x s).memory
      on none x k q = q
      on (some i) x k q = k x (emit_at (atom_of qs) (numbers qs) i s) q

-- ---- the memo only grows, and stays tame

-- each tally is of a key in the memo
pub record Tame (t : Tally) : Type 0 where
  pub tallied_few : t.tallied ≤ length t.memo
  pub rejected_few : t.rejected ≤ t.tallied

pub record Grows (t u : Tally) : Type 0 where
  pub more : length t.memo ≤ length u.memo
  pub tame : Tame t → Tame u

pub grows_self : (t : Tally) → Grows t t
grows_self t = record { more = omega arith; tame = λ h. h }

grows_tally : (r : Option (OptionOf Float)) (k : Key) (t u : Tally) → Grows t u → Grows t (tally_of r k u)
grows_tally none k t u g = record { more = omega (arith, g.more); tame = λ h. let w = g.tame h in record { tallied_few = omega arith; rejected_few = omega arith } }
grows_tally (some (Some m)) k t u g = record { more = omega (arith, g.more); tame = λ h. let w = g.tame h in record { tallied_few = omega arith; rejected_few = omega arith } }
grows_tally (some None) k t u g = record { more = omega (arith, g.more); tame = λ h. let w = g.tame h in record { tallied_few = omega arith; rejected_few = omega arith } }

-- sampling is not off where it is on
pub never : {A : Type 0} (cfg : SamplerConfig) → None ≡ Some cfg → A
never cfg e = let z : ◌≡◌ {A = ℕ} 0 1 = cc in absurd (omega arith)

module _ (fs : List (List ℕ)) where
  grows_after : (cfg : SamplerConfig) (k : Key) (t u : Tally) → Grows t u → Grows t (after_estimate fs cfg k u)
  unfolding after_estimate
  grows_after cfg k t u g = pick_elim (Grows t) (is_known u.memo k) u _ (λ _. g) (λ _. grows_tally (measure fs cfg k) k t u g)

  -- any key may be asked for
  abbrev any : Key → Type 0
  any k = Unit {0}

  pub children_grow : (em : Emitters) (B : Bound) (o p : ℕ) (xs : List Operand) (c : Costed) → Grows c.tally (child_costs fs em B o p xs c).tally
  children_grow em B o p xs c = children_keep fs any (Grows c.tally) (λ cfg k u _ _. grows_after cfg k c.tally u) em B o p xs c (λ _ _. tt) (grows_self c.tally)

  pub elements_grow : (em : Emitters) (B : Bound) (o : ℕ) (xs : List Operand) (c : Costed) → Grows c.tally (element_costs fs em B o xs c).tally
  elements_grow em B o xs c = elements_keep fs any (Grows c.tally) (λ cfg k u _ _. grows_after cfg k c.tally u) em B o xs c (λ _ _. tt) (grows_self c.tally)

  cost_grows_from : (em : Emitters) (B : Bound) (i : ℕ) (a : Atom) (t u : Tally) → Grows t u → Grows t (estimate_cost fs em B i a u).tally
  cost_grows_from em B i a t u = cost_keeps fs any (Grows t) (λ cfg k u _ _. grows_after cfg k t u) em B i a u (λ _ _. tt)

  pub cost_grows : (em : Emitters) (B : Bound) (i : ℕ) (a : Atom) (t : Tally) → Grows t (estimate_cost fs em B i a t).tally
  cost_grows em B i a t = cost_grows_from em B i a t t (grows_self t)

  module _ (qs : List Atom) where
    pub loop_grows : (n : ℕ) (m : Memory) (st : State) → Grows m.tally (rounds_from fs qs n m st).memory.tally
    loop_grows n m st =
        loop_keeps fs qs (λ x. Grows m.tally x.tally) (λ x s h. h) (λ x s i. cost_grows_from x.emitters s.bound i (atom_of qs i) m.tally x.tally) same n m st (grows_self m.tally)
      where
        same : (o : Option ℕ) (s : State) (x : Memory) → Grows m.tally x.tally → Grows m.tally (emitted_by fs qs o s x).tally
        same none s x h = h
        same (some i) s x h = h

    pub rounds_tame : (f : ℕ) → Tame (rounds fs qs f).memory.tally
    rounds_tame f = (loop_grows f fresh unplanned).tame (record { tallied_few = omega arith; rejected_few = omega arith })

    -- where sampling is off nothing is remembered
    pub nothing_sampled : (f : ℕ) → settings fs ≡ None → (rounds fs qs f).memory.tally.memo ≡ []
    nothing_sampled f off = loop_keeps fs qs (λ m. m.tally.memo ≡ []) (λ m s h. h) (λ m s i h. cost_keeps fs any (λ t. t.memo ≡ []) (λ cfg k t on _ _. never cfg (sym off ∙ on)) m.emitters s.bound i (atom_of qs i) m.tally (λ _ _. tt) h) same f fresh unplanned refl
      where
        same : (o : Option ℕ) (s : State) (m : Memory) → m.tally.memo ≡ [] → (emitted_by fs qs o s m).tally.memo ≡ []
        same none s m h = h
        same (some i) s m h = h

-- ---- the memo stays small

-- of all atoms, under the emitters em
abbrev pub keys_of : Emitters → List Atom → List Key
keys_of em qs = flat_map (atom_keys em) qs

-- at most one key for each operand
key_few : (em : Emitters) (x : Operand) (o path place : ℕ) → length (key_for em x o path place) ≤ 1
key_few em (local v) o path place = by (emitter_of em v)
  where
    by : (e : Option Emitter) → length (key_by e o path place) ≤ 1
    by none = omega arith
    by (some e) = omega arith
key_few em (global g) o path place = omega arith
key_few em wild o path place = omega arith

child_few : (em : Emitters) (o p : ℕ) (xs : List Operand) → length (child_keys em o p xs) ≤ length xs
unfolding child_keys
child_few em o p [] = omega arith
child_few em o p (x ∷ xs) = omega (arith, length-append (key_for em x o 0 p) (child_keys em o (suc p) xs), key_few em x o 0 p, child_few em o (suc p) xs)

element_few : (em : Emitters) (o : ℕ) (xs : List Operand) → length (element_keys em o xs) ≤ length xs
unfolding element_keys
element_few em o [] = omega arith
element_few em o (x ∷ xs) = omega (arith, length-append (key_for em x o 1 0) (element_keys em o xs), key_few em x o 1 0, element_few em o xs)

atom_few : (em : Emitters) (a : Atom) → length (atom_keys em a) ≤ length (operands_of a)
atom_few em (Plain n o cs) = child_few em o 0 cs
atom_few em (Lit n o x) = omega arith
atom_few em (LitBind n o l) = omega arith
atom_few em (Eq a b) = omega arith
atom_few em (EqGlobal a g) = omega arith
atom_few em (Pred g ds) = omega arith
atom_few em (Variadic n o cs f) = element_few em o cs

-- "items 16"
abbrev pub FewOperands : Atom → Type 0
FewOperands a = length (operands_of a) ≤ items_most

keys_few : (em : Emitters) (qs : List Atom) → Each FewOperands qs → length (keys_of em qs) ≤ items_most * length qs
unfolding flat_map
keys_few em [] h = omega arith
keys_few em (a ∷ qs) h = let f = h.0 in omega (arith, length-append (atom_keys em a) (keys_of em qs), atom_few em a, keys_few em qs h.1)

-- a variable's key stays, as its emitter does
key_stays : (em em' : Emitters) → Keeps em em' → (x : Operand) (o path place : ℕ) (k : Key) → Memᴰ k (key_for em x o path place) → Memᴰ k (key_for em' x o path place)
key_stays em em' s (local v) o path place k i = by (emitter_of em v) refl i
  where
    by : (e : Option Emitter) → emitter_of em v ≡ e → Memᴰ k (key_by e o path place) → Memᴰ k (key_by (emitter_of em' v) o path place)
    by none p j = absurd (Memᴰ.not-nil j)
    by (some e) p j = rw (s v e p) j
key_stays em em' s (global g) o path place k i = i
key_stays em em' s wild o path place k i = i

-- an element of one list or another, brought over
append_stays : (a a' b b' : List Key) (k : Key) → (Memᴰ k a → Memᴰ k a') → (Memᴰ k b → Memᴰ k b') → Memᴰ k (a ++ b) → Memᴰ k (a' ++ b')
append_stays a a' b b' k f g i = by (Memᴰ.append_cases a i)
  where
    by : Memᴰ k a ⊎ Memᴰ k b → Memᴰ k (a' ++ b')
    by (inl j) = Memᴰ.append_left b' (f j)
    by (inr j) = Memᴰ.append_right a' (g j)

child_stays : (em em' : Emitters) → Keeps em em' → (o p : ℕ) (xs : List Operand) (k : Key) → Memᴰ k (child_keys em o p xs) → Memᴰ k (child_keys em' o p xs)
unfolding child_keys
child_stays em em' s o p [] k i = i
child_stays em em' s o p (x ∷ xs) k i = append_stays (key_for em x o 0 p) (key_for em' x o 0 p) _ _ k (key_stays em em' s x o 0 p k) (child_stays em em' s o (suc p) xs k) i

element_stays : (em em' : Emitters) → Keeps em em' → (o : ℕ) (xs : List Operand) (k : Key) → Memᴰ k (element_keys em o xs) → Memᴰ k (element_keys em' o xs)
unfolding element_keys
element_stays em em' s o [] k i = i
element_stays em em' s o (x ∷ xs) k i = append_stays (key_for em x o 1 0) (key_for em' x o 1 0) _ _ k (key_stays em em' s x o 1 0 k) (element_stays em em' s o xs k) i

atom_stays : (em em' : Emitters) → Keeps em em' → (a : Atom) (k : Key) → Memᴰ k (atom_keys em a) → Memᴰ k (atom_keys em' a)
atom_stays em em' s (Plain n o cs) k i = child_stays em em' s o 0 cs k i
atom_stays em em' s (Lit n o x) k i = i
atom_stays em em' s (LitBind n o l) k i = i
atom_stays em em' s (Eq a b) k i = i
atom_stays em em' s (EqGlobal a g) k i = i
atom_stays em em' s (Pred g ds) k i = i
atom_stays em em' s (Variadic n o cs f) k i = element_stays em em' s o cs k i

keys_stay : (em em' : Emitters) → Keeps em em' → (qs : List Atom) (k : Key) → Memᴰ k (keys_of em qs) → Memᴰ k (keys_of em' qs)
keys_stay em em' s qs k i = let r = from (atom_keys em) qs i in into (atom_keys em') qs r.mem (atom_stays em em' s r.src k r.sub)

-- the keys of the atom numbered i are among those of all
key_of : (em : Emitters) (qs : List Atom) (i : ℕ) (k : Key) → Memᴰ k (atom_keys em (atom_of qs i)) → Memᴰ k (keys_of em qs)
unfolding atom_of flat_map
key_of em [] i k m = absurd (Memᴰ.not-nil m)
key_of em (a ∷ qs) zero k m = Memᴰ.append_left (keys_of em qs) m
key_of em (a ∷ qs) (suc i) k m = Memᴰ.append_right (atom_keys em a) (key_of em qs i k m)

-- the memo has no key twice, and only keys of K
pub record Asked (K : List Key) (t : Tally) : Type 0 where
  pub apart : Pairs ◌≢◌ t.memo
  pub among : All (λ k. Memᴰ k K) t.memo

pub same_self : (k : Key) → same_key k k ≡ true
same_self k =
    both (eq-eqb k.emitter k.emitter refl) (both (eq-eqb k.site k.site refl) (both (eq-eqb k.position k.position refl) (both (eq-eqb k.op k.op refl) (both (eq-eqb k.path k.path refl) (eq-eqb k.place k.place refl)))))

-- a key that is not known is none of the memo's
unknown : (l : List Key) (k : Key) → is_known l k ≡ false → All (λ y. k ≢ y) l
unfolding is_known
unknown [] k h y i = absurd (Memᴰ.not-nil i)
unknown (x ∷ l) k h y i = by (same_key k x) refl h (Memᴰ.cases_cons i) (λ g j. unknown l k g y j)
  where
    by : (t : Bool) → same_key k x ≡ t → pick t true (is_known l k) ≡ false → (y ≡ x) ⊎ Memᴰ y l → (is_known l k ≡ false → Memᴰ y l → k ≢ y) → k ≢ y
    by true e g c r = true_false refl g
    by false e g (inl q) r = λ p. true_false (same_self k) (rw (← (p ∙ q)) at e)
    by false e g (inr j) r = r g j

asked_tally : (K : List Key) (r : Option (OptionOf Float)) (k : Key) (t : Tally) → Memᴰ k K → is_known t.memo k ≡ false → Asked K t → Asked K (tally_of r k t)
asked_tally K r k t m h a = by r
  where
    among : All (λ y. Memᴰ y K) (k ∷ t.memo)
    among y i = at (Memᴰ.cases_cons i)
      where
        at : (y ≡ k) ⊎ Memᴰ y t.memo → Memᴰ y K
        at (inl e) = rw e m
        at (inr j) = a.among y j

    by : (r : Option (OptionOf Float)) → Asked K (tally_of r k t)
    by none = record { apart = (unknown t.memo k h, a.apart); among = among }
    by (some (Some v)) = record { apart = (unknown t.memo k h, a.apart); among = among }
    by (some None) = record { apart = (unknown t.memo k h, a.apart); among = among }

pub record FewKeys (t : Tally) : Type 0 where
  pub memo_few : length t.memo ≤ keys_most
  pub tallied_few : t.tallied ≤ keys_most
  pub rejected_few : t.rejected ≤ keys_most

module _ (fs : List (List ℕ)) (qs : List Atom) where
  asked_after : (K : List Key) (cfg : SamplerConfig) (k : Key) (t : Tally) → Memᴰ k K → Asked K t → Asked K (after_estimate fs cfg k t)
  unfolding after_estimate
  asked_after K cfg k t m a = pick_elim (Asked K) (is_known t.memo k) t _ (λ _. a) (λ h. asked_tally K (measure fs cfg k) k t m h a)

  -- the rounds ask for the keys under the emitters of the time, and these stay
  abbrev AllAsked : Memory → Type 0
  AllAsked m = Asked (keys_of m.emitters qs) m.tally

  asked_more : (em em' : Emitters) (t : Tally) → Keeps em em' → Asked (keys_of em qs) t → Asked (keys_of em' qs) t
  asked_more em em' t s a = record { apart = a.apart; among = λ k i. keys_stay em em' s qs k (a.among k i) }

  asked_emitted : (o : Option ℕ) (s : State) (m : Memory) → AllAsked m → AllAsked (emitted_by fs qs o s m)
  asked_emitted none s m a = a
  asked_emitted (some i) s m a = asked_more m.emitters _ m.tally (atom_keeps m.emitters i (atom_of qs i)) a

  all_asked : (f : ℕ) → AllAsked (rounds fs qs f).memory
  all_asked f = loop_keeps fs qs AllAsked
      (λ m s a. asked_more m.emitters _ m.tally (record_keeps m.before s.used 0 qs m.emitters) a)
      (λ m s i a. cost_keeps fs (λ k. Memᴰ k (keys_of m.emitters qs)) (Asked (keys_of m.emitters qs)) (λ cfg k t _. asked_after (keys_of m.emitters qs) cfg k t) m.emitters s.bound i (atom_of qs i) m.tally (key_of m.emitters qs i) a)
      asked_emitted f fresh unplanned
      (record { apart = tt; among = λ k i. absurd (Memᴰ.not-nil i) })

  -- "items 16": a key for each item of each atom at most, whatever the costs, after any number of rounds
  pub rounds_items : (f : ℕ) → Each FewOperands qs → length (rounds fs qs f).memory.tally.memo ≤ items_most * length qs
  rounds_items f h =
      let m = (rounds fs qs f).memory in
      let a = all_asked f in
      let l = no_longer m.tally.memo (keys_of m.emitters qs) a.apart a.among in
      let b = keys_few m.emitters qs h in
      omega arith

  -- "atoms 64"
  pub rounds_few : (f : ℕ) → length qs ≤ atoms_most → Each FewOperands qs → FewKeys (rounds fs qs f).memory.tally
  rounds_few f n h =
      let b = rounds_items f h in
      let t = rounds_tame fs qs f in
      record { memo_few = omega arith; tallied_few = omega arith; rejected_few = omega arith }
