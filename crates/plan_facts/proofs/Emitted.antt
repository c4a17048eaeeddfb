-- "The first emitter of a variable stays": whatever is recorded keeps every emitter that is there. Proved by cases on what is recorded.
use Prim.Native.Nat.{ℕ, suc}
use mathlib.Core.Path.{◌≡◌, refl, ◌∙◌}
use mathlib.Core.Bool.{beq}
use mathlib.Core.Option.{Option, none, some}
use mathlib.Core.List.{List, [], ◌∷◌}
use native.Mathlib.Omega.{arith}
use native.Mathlib.Decide.{ℕ_discrete}
use Rattle.reading_facts.proofs.ChooseLaws.{pick_elim}
use Rattle.plans.specs.Atoms.{Operand, local, global, wild, Atom, Plain, Lit, LitBind, Eq, EqGlobal, Pred, Variadic}
use Rattle.plans.specs.Bound.{Bound, has, put}
use Rattle.cost.proofs.BoundLaws.{put_other}
use Rattle.cost.specs.Emitters.{Emitter, Emitters, emitter_of, from, or_keep, set_emitter, set_operand, set_children, set_elements, copy_emitter, record_atom, record_emitters}

abbrev pub Keeps : Emitters → Emitters → Type 0
Keeps em em' = (v : ℕ) (e : Emitter) → emitter_of em v ≡ some e → emitter_of em' v ≡ some e

-- what is set where there was none
put_keeps : (em : Emitters) (v : ℕ) (r : Option Emitter) → emitter_of em v ≡ none → Keeps em (put none em v r)
put_keeps em v r h w e p = at (ℕ_discrete w v)
  where
    at : Dec (w ≡ v) → emitter_of (put none em v r) w ≡ some e
    at (yes q) = let z : ◌≡◌ {A = ℕ} 0 1 = cc in absurd (omega arith)
    at (no q) = put_other none em v w r q ∙ p

set_keeps : (em : Emitters) (v : ℕ) (r : Option Emitter) → Keeps em (set_emitter em v r)
set_keeps em v r = by (emitter_of em v) refl
  where
    by : (o : Option Emitter) → emitter_of em v ≡ o → Keeps em (or_keep o em v r)
    by none h = put_keeps em v r h
    by (some k) h = λ w e p. p

operand_keeps : (em : Emitters) (x : Operand) (r : Option Emitter) → Keeps em (set_operand em x r)
operand_keeps em (local v) r = set_keeps em v r
operand_keeps em (global g) r = λ w e p. p
operand_keeps em wild r = λ w e p. p

children_keep : (em : Emitters) (a p : ℕ) (cs : List Operand) → Keeps em (set_children em a p cs)
unfolding set_children
children_keep em a p [] w e h = h
children_keep em a p (c ∷ cs) w e h = children_keep (set_operand em c (from a 1 p)) a (suc p) cs w e (operand_keeps em c (from a 1 p) w e h)

elements_keep : (em : Emitters) (a : ℕ) (cs : List Operand) → Keeps em (set_elements em a cs)
unfolding set_elements
elements_keep em a [] w e h = h
elements_keep em a (c ∷ cs) w e h = elements_keep (set_operand em c (from a 2 0)) a cs w e (operand_keeps em c (from a 2 0) w e h)

copy_keeps : (em : Emitters) (a b : ℕ) → Keeps em (copy_emitter (emitter_of em a) (emitter_of em b) em a b)
copy_keeps em a b = by (emitter_of em a) (emitter_of em b) refl refl
  where
    by : (o r : Option Emitter) → emitter_of em a ≡ o → emitter_of em b ≡ r → Keeps em (copy_emitter o r em a b)
    by none r h k = put_keeps em a r h
    by (some o) none h k = put_keeps em b (some o) k
    by (some o) (some r) h k = λ w e p. p

pub atom_keeps : (em : Emitters) (i : ℕ) (a : Atom) → Keeps em (record_atom em i a)
unfolding record_atom
atom_keeps em i (Plain n o cs) w e h = children_keep (set_emitter em n (from i 0 0)) i 0 cs w e (set_keeps em n (from i 0 0) w e h)
atom_keeps em i (Lit n o x) w e h = set_keeps em n (from i 0 0) w e h
atom_keeps em i (LitBind n o l) w e h = set_keeps em n (from i 0 0) w e h
atom_keeps em i (Eq a b) w e h = copy_keeps em a b w e h
atom_keeps em i (EqGlobal a g) w e h = h
atom_keeps em i (Pred g ds) w e h = h
atom_keeps em i (Variadic n o cs f) w e h = elements_keep (set_emitter em n (from i 0 0)) i cs w e (set_keeps em n (from i 0 0) w e h)

pub record_keeps : (before used : Bound) (i : ℕ) (qs : List Atom) (em : Emitters) → Keeps em (record_emitters before used i qs em)
unfolding record_emitters
record_keeps before used i [] em w e h = h
record_keeps before used i (a ∷ qs) em w e h =
    record_keeps before used (suc i) qs _ w e (pick_elim (λ (m : Emitters). emitter_of m w ≡ some e) (beq (has used i) (has before i)) em _ (λ _. h) (λ _. atom_keeps em i a w e h))
