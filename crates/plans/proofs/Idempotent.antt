-- Note 2: the frames 48 of a plan have 00 after the node, in whatever order the atoms are lowered. Proved by cases on the atom.
use Prim.Native.Nat.{ℕ, suc}
use mathlib.Core.Path.{◌≡◌, refl}
use mathlib.Core.Bool.{Bool, true, false}
use mathlib.Core.Option.{some}
use mathlib.Core.List.{List, [], ◌∷◌, map}
use native.Mathlib.Omega.{arith}
use lib.ListN.{get_or}
use Rattle.records.specs.Atoms.{Operand, local, global, wild, Form, A, AC, ACI, Atom, Plain, Lit, LitBind, Eq, EqGlobal, Pred, Variadic, Step, Expand}
use Rattle.records.specs.Bound.{Bound, has, add}
use Rattle.records.specs.Lowering.{pv_is_bound, pv_mark_bound, read_child, emit_read_children, Emitted, expansion_of, lower}
use Rattle.records.specs.Scheduling.{State, Chosen, Fair, atom_of, numbers, schedule}
use Rattle.records.proofs.Scheduled.{ordered, reached}
use Rattle.records.specs.Items.{Each}
use Rattle.plans.specs.StepFrames.{frame_of}
use Rattle.plans.proofs.Fitting.{each_append, emitted_have, eq_have, global_has, lowered_each}

-- where the kind is 48 the byte after the node is 00
abbrev pub NotIdempotent : List ℕ → Type 0
NotIdempotent f = get_or f 0 0 ≡ 0x48 → get_or f 2 0 ≡ 0

abbrev StepNot : Step → Type 0
StepNot s = NotIdempotent (frame_of s)

abbrev AllNot : List Step → Type 0
AllNot ss = Each StepNot ss

read_not : (b : Bool) (v i : ℕ) (c : Operand) → AllNot (read_child v i b c)
unfolding frame_of
read_not true v i (local w) = ((λ e. absurd (omega arith)), tt)
read_not false v i (local w) = ((λ e. absurd (omega arith)), tt)
read_not b v i (global g) = ((λ e. absurd (omega arith)), tt)
read_not b v i wild = tt

reads_not : (v i : ℕ) (B : Bound) (cs : List Operand) → AllNot (emit_read_children v i B cs)
unfolding emit_read_children
reads_not v i B [] = tt
reads_not v i B (c ∷ cs) = each_append StepNot (read_child v i (pv_is_bound B c) c) _ (read_not (pv_is_bound B c) v i c) (reads_not v (suc i) (pv_mark_bound B c) cs)

expand_not : (v : ℕ) (cs : List Operand) (f : Form) → StepNot (Expand v cs (expansion_of f))
unfolding frame_of
expand_not v cs (A pre suf) e = absurd (omega arith)
expand_not v cs (AC ms rest) e = refl
expand_not v cs (ACI rest) e = absurd (omega arith)

atom_not : (B : Bound) (k : ℕ) (a : Atom) (l : Emitted) → lower B k a ≡ some l → AllNot l.steps
unfolding lower frame_of
atom_not B k (Plain v o cs) l e = emitted_have AllNot _ l e ((λ j. absurd (omega arith)), reads_not v 0 (add B v) cs)
atom_not B k (Lit v o x) l e = emitted_have AllNot _ l e ((λ j. absurd (omega arith)), ((λ j. absurd (omega arith)), tt))
atom_not B k (LitBind v o x) l e = emitted_have AllNot _ l e ((λ j. absurd (omega arith)), ((λ j. absurd (omega arith)), tt))
atom_not B k (Eq a b) l e = eq_have AllNot (has B a) (has B b) B a b l ((λ j. absurd (omega arith)), tt) ((λ j. absurd (omega arith)), tt) ((λ j. absurd (omega arith)), tt) e
atom_not B k (EqGlobal a g) l e = global_has AllNot (has B a) B a g l ((λ j. absurd (omega arith)), tt) ((λ j. absurd (omega arith)), tt) e
atom_not B k (Pred g ds) l e = emitted_have AllNot _ l e ((λ j. absurd (omega arith)), tt)
atom_not B k (Variadic v o cs f) l e = emitted_have AllNot _ l e ((λ j. absurd (omega arith)), (expand_not v cs f, tt))

frames_not : (ss : List Step) → Each StepNot ss → Each NotIdempotent (map frame_of ss)
frames_not [] h = tt
frames_not (s ∷ ss) h = (h.0, frames_not ss h.1)

-- the plan of a query, whatever the costs
pub schedule_not : (qs : List Atom) {X : Type 0} (choose : X → State → Chosen X) (x : X) → Fair (atom_of qs) (numbers qs) choose → Each NotIdempotent (map frame_of (schedule qs choose x).steps)
schedule_not qs choose x fair =
    frames_not (schedule qs choose x).steps
    (lowered_each StepNot (ordered (atom_of qs) (numbers qs) (schedule qs choose x) (reached qs choose x fair)).lowered (λ k i C l e. atom_not C k (atom_of qs k) l e))
