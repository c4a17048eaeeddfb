-- The steps along a lowering sequence are its steps, and as many as the atoms say. Proved by induction over the sequence.
use Prim.Native.Nat.{ℕ, suc}
use mathlib.Core.Path.{◌≡◌, refl, ap}
use mathlib.Core.Bool.{Bool, true, false}
use mathlib.Core.Option.{some}
use mathlib.Core.List.{List, [], ◌∷◌, ◌++◌}
use native.Mathlib.Omega.{arith}
use lib.ListN.{length, length-append}
use Rattle.records.specs.Atoms.{Operand, local, global, wild, Atom, Plain, Lit, LitBind, Eq, EqGlobal, Pred, Variadic, Step}
use Rattle.records.specs.Bound.{Bound, has, add}
use Rattle.records.specs.Lowering.{Emitted, read_child, emit_read_children, lower_eq, lower_eq_global, lower, Lowered, done, more}
use Rattle.emitting.specs.Begun.{steps_of}
use Rattle.writing.specs.Steps.{steps_along, read_count, step_count, count_along}

-- they are the steps of a lowering sequence
pub lowered_steps : {atomAt : ℕ → Atom} {B C : Bound} {ss : List Step} {ks : List ℕ} → Lowered atomAt B ss C ks → steps_along atomAt B ks ≡ ss
unfolding steps_along
lowered_steps done = refl
lowered_steps (more k l e r) = rw (e, lowered_steps r)

children_count : (cs : List Operand) (n i : ℕ) (B : Bound) → length (emit_read_children n i B cs) ≡ read_count cs
unfolding emit_read_children read_count
children_count [] n i B = refl
children_count (local v ∷ cs) n i B = by (has B v) (children_count cs n (suc i) (add B v))
  where
    by : (b : Bool) → length (emit_read_children n (suc i) (add B v) cs) ≡ read_count cs → length (read_child n i b (local v) ++ emit_read_children n (suc i) (add B v) cs) ≡ suc (read_count cs)
    by true h = ap suc h
    by false h = ap suc h
children_count (global g ∷ cs) n i B = ap suc (children_count cs n (suc i) B)
children_count (wild ∷ cs) n i B = children_count cs n (suc i) B

-- an atom that lowers becomes as many
pub lowers_count : (B : Bound) (k : ℕ) (a : Atom) (l : Emitted) → lower B k a ≡ some l → length (steps_of (lower B k a)) ≡ step_count a
unfolding lower
lowers_count B k (Plain n o cs) l h = ap suc (children_count cs n 0 (add B n))
lowers_count B k (Lit n o x) l h = refl
lowers_count B k (LitBind n o x) l h = refl
lowers_count B k (Eq a b) l h = by (has B a) (has B b) h
  where
    by : (t u : Bool) → lower_eq t u B a b ≡ some l → length (steps_of (lower_eq t u B a b)) ≡ 1
    by true true h = refl
    by true false h = refl
    by false true h = refl
    by false false h = let z : ◌≡◌ {A = ℕ} 0 1 = cc in z
lowers_count B k (EqGlobal a g) l h = by (has B a)
  where
    by : (t : Bool) → length (steps_of (lower_eq_global t B a g)) ≡ 1
    by true = refl
    by false = refl
lowers_count B k (Pred g ds) l h = refl
lowers_count B k (Variadic n o cs f) l h = refl

-- the atoms of a lowering sequence become as many
pub lowered_count : {atomAt : ℕ → Atom} {B C : Bound} {ss : List Step} {ks : List ℕ} → Lowered atomAt B ss C ks → count_along atomAt ks ≡ length ss
unfolding count_along
lowered_count done = refl
lowered_count {atomAt} {B} (more k l {ss} e r) =
    let h : length (steps_of (lower B k (atomAt k))) ≡ step_count (atomAt k) = lowers_count B k (atomAt k) l e in
    let g : length l.steps ≡ step_count (atomAt k) = rw e at h in
    omega (arith, length-append l.steps ss, lowered_count r)
