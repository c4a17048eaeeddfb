-- The atoms that were lowered since emitters were last recorded, and atoms recorded by their numbers.
use Rattle.std.specs.Prelude.{ℕ, zero, suc, List, [], ◌∷◌, ltb, length}
use Rattle.std.specs.Bool.{beq}
use Rattle.hexadecimal.specs.Choose.{pick}
use Rattle.binding.specs.Atoms.{Atom}
use Rattle.binding.specs.Bound.{Bound, has}
use Rattle.binding.specs.Scheduling.{atom_of}
use Rattle.binding.specs.Emitters.{Emitters, record_atom}

-- the numbers of those of k atoms, from number i on, whose use has changed
unfoldable pub changed_from : Bound → Bound → ℕ → ℕ → List ℕ
changed_from before used i zero = []
changed_from before used i (suc k) =
    let later = changed_from before used (suc i) k in
    pick (beq (has used i) (has before i)) later (i ∷ later)

-- atom number k, where there is one
abbrev pub record_number : List Atom → Emitters → ℕ → Emitters
record_number qs em k = pick (ltb k (length qs)) (record_atom em k (atom_of qs k)) em

-- the atoms with these numbers, in turn
unfoldable pub record_numbers : List Atom → List ℕ → Emitters → Emitters
record_numbers qs [] em = em
record_numbers qs (k ∷ ks) em = record_numbers qs ks (record_number qs em k)
