-- The variables, literals and sequences in a list of atoms do not depend on its order; the atoms of a query by number. Proved by induction over the list.
use mathlib.Core.Path.{◌≡◌, refl, sym, ap, ◌∙◌, subst}
use mathlib.Core.Logic.{◌⊎◌, inl, inr}
use Prim.Native.Nat.{ℕ, ◌<◌}
use mathlib.Core.Bool.{Bool, true, false, ◌||◌, or-true}
use mathlib.Core.List.Memᴰ
use mathlib.Core.List.{List, [], ◌∷◌, map, Memᴰ}
use lib.Dec.{T}
use lib.ListN.{length}
use Rattle.model.proofs.Bools.{bool_ext}
use Rattle.model.specs.Atoms.{Atom}
use Rattle.model.proofs.TabulateLaws.{mem_tabulate}
use Rattle.model.specs.Scheduling.{atom_of}
use Rattle.model.proofs.Scheduled.{mem_at, number_mem}
use Rattle.model.specs.Matching.{any, SameAtoms}

record AnyMem (f : Atom → Bool) (qs : List Atom) : Type 0 where
  at : Atom
  mem : Memᴰ at qs
  yes' : f at ≡ true

any_mem : (f : Atom → Bool) (qs : List Atom) → any f qs ≡ true → AnyMem f qs
unfolding any
any_mem f [] h = absurd (subst T (sym h) tt)
any_mem f (a ∷ qs) h = at (f a) refl h (any_mem f qs)
  where
    at : (b : Bool) → f a ≡ b → (b || any f qs) ≡ true → (any f qs ≡ true → AnyMem f qs) → AnyMem f (a ∷ qs)
    at true e h r = record { at = a; mem = Memᴰ.head refl; yes' = e }
    at false e h r = let q = r h in record { at = q.at; mem = Memᴰ.tail q.mem; yes' = q.yes' }

pub mem_any : (f : Atom → Bool) (qs : List Atom) {a : Atom} → Memᴰ a qs → f a ≡ true → any f qs ≡ true
unfolding any
mem_any f [] i h = absurd (Memᴰ.not-nil i)
mem_any f (x ∷ qs) {a} i h = at (Memᴰ.cases_cons i) (λ j. mem_any f qs j h)
  where
    at : (a ≡ x) ⊎ Memᴰ a qs → (Memᴰ a qs → any f qs ≡ true) → (f x || any f qs) ≡ true
    at (inl e) r = ap (λ b. b || any f qs) (ap f (sym e) ∙ h)
    at (inr j) r = ap (λ b. f x || b) (r j) ∙ or-true (f x)

pub any_same : (f : Atom → Bool) (qs ps : List Atom) → SameAtoms qs ps → any f qs ≡ any f ps
any_same f qs ps s = bool_ext (any f qs) (any f ps)
    (λ h. let r = any_mem f qs h in mem_any f ps (s.to r.at r.mem) r.yes')
    (λ h. let r = any_mem f ps h in mem_any f qs (s.back r.at r.mem) r.yes')

pub number_in : (qs : List Atom) (k : ℕ) → k < length qs → Memᴰ (atom_of qs k) qs
number_in qs k h = number_mem qs k (mem_tabulate (length qs) (λ j. j) k h)

-- a lowering sequence of all atoms
pub record AllOf (qs : List Atom) (ks : List ℕ) : Type 0 where
  pub every : (k : ℕ) → k < length qs → Memᴰ k ks
  pub only : (k : ℕ) → Memᴰ k ks → k < length qs

pub all_same : (qs : List Atom) (ks : List ℕ) → AllOf qs ks → SameAtoms qs (map (atom_of qs) ks)
all_same qs ks s = record {
  to = λ a m. let q = mem_at qs a m in Memᴰ.cast q.is (Memᴰ.map (atom_of qs) (s.every q.place q.below));
  back = λ a m. let r = Memᴰ.of_map (atom_of qs) ks m in Memᴰ.cast (sym r.2) (number_in qs r.0 (s.only r.0 r.1));
}
