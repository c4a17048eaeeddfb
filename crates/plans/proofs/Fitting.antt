-- The steps of atoms within their limits fit, in whatever order the atoms are lowered: `lowered_fit`; so the plan of a query fits. Proved by
-- cases on the atom and by induction over the lowering sequence.
use Prim.Native.Nat.{ℕ, suc, ◌+◌, ◌<◌, ◌≤◌}
use mathlib.Core.Path.{◌≡◌, refl, sym, subst}
use mathlib.Core.Logic.{◌⊎◌, inl, inr}
use mathlib.Core.Bool.{Bool, true, false}
use mathlib.Core.Option.{some, some-injective}
use mathlib.Core.List.Memᴰ
use mathlib.Core.List.{List, [], ◌∷◌, ◌++◌, Memᴰ}
use native.Mathlib.Omega.{arith}
use lib.ListN.{length}
use Rattle.records.specs.Limits.{items_most}
use Rattle.records.specs.Counts.{Counts}
use Rattle.records.specs.Lists.{one}
use Rattle.records.proofs.TabulateLaws.{tabulate_mem}
use Rattle.records.specs.Atoms.{Operand, local, global, wild, Form, A, AC, ACI, Atom, Plain, Lit, LitBind, Eq, EqGlobal, Pred, Variadic, Lookup, ByChildPos, ByContains, Step, Join, CheckEq, CheckEqGlobal, BindGlobal, CopyBinding}
use Rattle.records.specs.Bound.{Bound, has, add}
use Rattle.records.specs.Lowering.{pv_is_bound, pv_mark_bound, read_child, emit_read_children, child_lookups, contains_lookups, join_lookups, Emitted, expansion_of, lower_eq, lower_eq_global, lower, Lowered, done, more}
use Rattle.records.specs.Scheduling.{State, Chosen, Fair, atom_of, numbers, schedule}
use Rattle.records.proofs.Scheduled.{ordered, number_mem, reached}
use Rattle.records.specs.Items.{Each}
use Rattle.plans.specs.StepFrames.{Byte, OperandFits, LookupFits, FormFits, ExpansionFits, StepFits, AtomFits}

-- counts with room for more atoms: a plan's are 64
abbrev pub with_atoms : Counts → ℕ → Counts
with_atoms n m = record { variables = n.variables; globals = n.globals; literals = n.literals; atoms = m; rows = n.rows; table = n.table }

operands_more : (n : Counts) (m : ℕ) (cs : List Operand) → Each (OperandFits n) cs → Each (OperandFits (with_atoms n m)) cs
operands_more n m [] h = tt
operands_more n m (local v ∷ cs) h = (h.0, operands_more n m cs h.1)
operands_more n m (global g ∷ cs) h = (h.0, operands_more n m cs h.1)
operands_more n m (wild ∷ cs) h = absurd h.0

pub atom_more : (n : Counts) (m : ℕ) → n.atoms ≤ m → (a : Atom) → AtomFits n a → AtomFits (with_atoms n m) a
atom_more n m k (Plain v o cs) h = (h.0, h.1, (h.2.0, operands_more n m cs h.2.1))
atom_more n m k (Lit v o x) h = h
atom_more n m k (LitBind v o l) h = h
atom_more n m k (Eq a b) h = h
atom_more n m k (EqGlobal a g) h = h
atom_more n m k (Pred g ds) h = (h.0, h.1, atoms_more ds h.2)
  where
    atoms_more : (ds : List ℕ) → Each (λ d. d < n.atoms) ds → Each (λ d. d < m) ds
    atoms_more [] h = tt
    atoms_more (d ∷ ds) h = let q = h.0 in (omega arith, atoms_more ds h.1)
atom_more n m k (Variadic v o cs f) h = (h.0, h.1, (h.2.0, operands_more n m cs h.2.1), h.3)

pub each_append : {X : Type 0} (P : X → Type 0) (l m : List X) → Each P l → Each P m → Each P (l ++ m)
each_append P [] m h k = k
each_append P (x ∷ l) m h k = (h.0, each_append P l m h.1 k)

pub each_mem : {X : Type 0} (P : X → Type 0) (l : List X) → Each P l → (x : X) → Memᴰ x l → P x
each_mem P [] h x i = absurd (Memᴰ.not-nil i)
each_mem P (y ∷ l) h x i = at (Memᴰ.cases_cons i) (λ j. each_mem P l h.1 x j)
  where
    at : (x ≡ y) ⊎ Memᴰ x l → (Memᴰ x l → P x) → P x
    at (inl e) r = subst P (sym e) h.0
    at (inr j) r = r j

expansion_fits : (cs : List Operand) (f : Form) → FormFits cs f → ExpansionFits cs (expansion_of f)
expansion_fits cs (A pre suf) h = h
expansion_fits cs (AC ms rest) h = h
expansion_fits cs (ACI rest) h = h

-- what holds of the steps given out holds of those emitted
pub emitted_have : (P : List Step → Type 0) (m l : Emitted) → some m ≡ some l → P m.steps → P l.steps
emitted_have P m l e = subst (λ (x : Emitted). P x.steps) (some-injective m l e)

-- the steps of an Eq and of an EqGlobal that lower: one of three, one of two
pub eq_have : (P : List Step → Type 0) (p q : Bool) (B : Bound) (a b : ℕ) (l : Emitted) → P (CheckEq a b ∷ []) → P (CopyBinding b a ∷ []) → P (CopyBinding a b ∷ []) → lower_eq p q B a b ≡ some l → P l.steps
eq_have P true true B a b l x y z e = emitted_have P _ l e x
eq_have P true false B a b l x y z e = emitted_have P _ l e y
eq_have P false true B a b l x y z e = emitted_have P _ l e z
eq_have P false false B a b l x y z e = let w : ◌≡◌ {A = ℕ} 0 1 = cc in absurd (omega arith)

pub global_has : (P : List Step → Type 0) (p : Bool) (B : Bound) (a g : ℕ) (l : Emitted) → P (CheckEqGlobal a g ∷ []) → P (BindGlobal a g ∷ []) → lower_eq_global p B a g ≡ some l → P l.steps
global_has P true B a g l x y e = emitted_have P _ l e x
global_has P false B a g l x y e = emitted_have P _ l e y

-- what holds of the steps of each atom holds of a lowering sequence, whatever its order
pub lowered_each : (P : Step → Type 0) {at : ℕ → Atom} {B : Bound} {ss : List Step} {B' : Bound} {ks : List ℕ} → Lowered at B ss B' ks
    → ((k : ℕ) → Memᴰ k ks → (C : Bound) (l : Emitted) → lower C k (at k) ≡ some l → Each P l.steps) → Each P ss
lowered_each P done h = tt
lowered_each P (more {B} k l {ss} e r) h = each_append P l.steps ss (h k (Memᴰ.head refl) B l e) (lowered_each P r (λ j i. h j (Memᴰ.tail i)))

-- ---- lookups: at most one for each operand, and ByOp
one_few : {X : Type 0} (b : Bool) (x : X) (l : List X) (m : ℕ) → length l ≤ m → length (one b x ++ l) ≤ suc m
one_few true x l m h = omega arith
one_few false x l m h = omega arith

one_each : {X : Type 0} (P : X → Type 0) (b : Bool) (x : X) (l : List X) → P x → Each P l → Each P (one b x ++ l)
one_each P true x l h k = (h, k)
one_each P false x l h k = k

pub children_few : (B : Bound) (i : ℕ) (cs : List Operand) → length (child_lookups B i cs) ≤ length cs
unfolding child_lookups
children_few B i [] = omega arith
children_few B i (c ∷ cs) = one_few (pv_is_bound B c) (ByChildPos c i) (child_lookups B (suc i) cs) (length cs) (children_few B (suc i) cs)

pub contains_few : (B : Bound) (cs : List Operand) → length (contains_lookups B cs) ≤ length cs
unfolding contains_lookups
contains_few B [] = omega arith
contains_few B (c ∷ cs) = one_few (pv_is_bound B c) (ByContains c) (contains_lookups B cs) (length cs) (contains_few B cs)

module _ (n : Counts) where
  children_fit : (B : Bound) (i : ℕ) (cs : List Operand) → i + length cs ≤ 256 → Each (OperandFits n) cs → Each (LookupFits n) (child_lookups B i cs)
  unfolding child_lookups
  children_fit B i [] k h = tt
  children_fit B i (c ∷ cs) k h = one_each (LookupFits n) (pv_is_bound B c) (ByChildPos c i) (child_lookups B (suc i) cs) (h.0, omega arith) (children_fit B (suc i) cs (omega arith) h.1)

  contains_fit : (B : Bound) (cs : List Operand) → Each (OperandFits n) cs → Each (LookupFits n) (contains_lookups B cs)
  unfolding contains_lookups
  contains_fit B [] h = tt
  contains_fit B (c ∷ cs) h = one_each (LookupFits n) (pv_is_bound B c) (ByContains c) (contains_lookups B cs) h.0 (contains_fit B cs h.1)

  join_fits : (b : Bool) (v k o : ℕ) (ls : List Lookup) → v < n.variables → k < n.atoms → Byte o → length ls ≤ items_most → Each (LookupFits n) ls → StepFits n (Join v k (join_lookups b v o ls))
  join_fits true v k o ls h j p m f = (h, j, omega arith, (h, (p, tt)))
  join_fits false v k o ls h j p m f = (h, j, omega arith, (p, f))

  -- ---- the children are read
  read_fits : (b : Bool) (v i : ℕ) (c : Operand) → v < n.variables → Byte i → OperandFits n c → Each (StepFits n) (read_child v i b c)
  read_fits true v i (local w) h k p = ((h, k, p), tt)
  read_fits false v i (local w) h k p = ((p, h, k), tt)
  read_fits b v i (global g) h k p = ((h, k, p), tt)
  read_fits b v i wild h k p = tt

  reads_fit : (v i : ℕ) (B : Bound) (cs : List Operand) → v < n.variables → i + length cs ≤ 256 → Each (OperandFits n) cs → Each (StepFits n) (emit_read_children v i B cs)
  unfolding emit_read_children
  reads_fit v i B [] h k p = tt
  reads_fit v i B (c ∷ cs) h k p = each_append (StepFits n) (read_child v i (pv_is_bound B c) c) _ (read_fits (pv_is_bound B c) v i c h (omega arith) p.0) (reads_fit v (suc i) (pv_mark_bound B c) cs h (omega arith) p.1)

  -- ---- one atom's steps
  abbrev Fit : List Step → Type 0
  Fit ss = Each (StepFits n) ss

  pub atom_fits : (B : Bound) (k : ℕ) (a : Atom) (l : Emitted) → lower B k a ≡ some l → k < n.atoms → AtomFits n a → Fit l.steps
  unfolding lower
  atom_fits B k (Plain v o cs) l e j h =
      let few = h.2.0 in
      emitted_have Fit _ l e
      (join_fits (has B v) v k o (child_lookups B 0 cs) h.0 j h.1 (omega (arith, children_few B 0 cs)) (children_fit B 0 cs (omega arith) h.2.1), reads_fit v 0 (add B v) cs h.0 (omega arith) h.2.1)
  atom_fits B k (Lit v o x) l e j h = emitted_have Fit _ l e (join_fits (has B v) v k o [] h.0 j h.1 (omega arith) tt, ((h.0, h.2), tt))
  atom_fits B k (LitBind v o x) l e j h = emitted_have Fit _ l e (join_fits (has B v) v k o [] h.0 j h.1 (omega arith) tt, ((h.0, h.2), tt))
  atom_fits B k (Eq a b) l e j h = eq_have Fit (has B a) (has B b) B a b l (h, tt) ((h.1, h.0), tt) (h, tt) e
  atom_fits B k (EqGlobal a g) l e j h = global_has Fit (has B a) B a g l (h, tt) (h, tt) e
  atom_fits B k (Pred g ds) l e j h = emitted_have Fit _ l e (h.0, tt)
  atom_fits B k (Variadic v o cs f) l e j h =
      let few = h.2.0 in
      emitted_have Fit _ l e
      (join_fits (has B v) v k o (contains_lookups B cs) h.0 j h.1 (omega (arith, contains_few B cs)) (contains_fit B cs h.2.1), ((h.0, h.2, expansion_fits cs f h.3), tt))

  pub lowered_fit : {at : ℕ → Atom} {B : Bound} {ss : List Step} {B' : Bound} {ks : List ℕ} → Lowered at B ss B' ks → ((k : ℕ) → Memᴰ k ks → (k < n.atoms) × AtomFits n (at k)) → Each (StepFits n) ss
  lowered_fit {at = at} r h = lowered_each (StepFits n) r (λ k i C l e. atom_fits C k (at k) l e (h k i).0 (h k i).1)

  -- ---- the plan of a query, whatever the costs
  pub schedule_fit : (qs : List Atom) {X : Type 0} (choose : X → State → Chosen X) (x : X) → Fair (atom_of qs) (numbers qs) choose → length qs ≤ n.atoms → Each (AtomFits n) qs → Each (StepFits n) (schedule qs choose x).steps
  schedule_fit qs choose x fair h fit =
      let o = ordered (atom_of qs) (numbers qs) (schedule qs choose x) (reached qs choose x fair) in
      lowered_fit o.lowered (λ k i. let m = o.known k i in let p = tabulate_mem (length qs) (λ j. j) k m in let b = p.below in (rw p.is (omega arith), each_mem (AtomFits n) qs fit (atom_of qs k) (number_mem qs k m)))
