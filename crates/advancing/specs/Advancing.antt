-- The scheduler's state over arrays: what an eager round, and the atom chosen, make of it.
use Rattle.std.specs.Prelude.{ℕ, ◌≡◌, length}
use mathlib.Core.List.{List, Memᴰ, map}
use Rattle.binding.specs.Atoms.{Atom}
use Rattle.binding.specs.Bound.{Bound, add, bound_most}
use Rattle.binding.specs.Scheduling.{emit_at, atom_of, numbers}
use Rattle.binding.specs.QueryAtoms.{atom_of_frame}
use Rattle.binding.specs.Emitters.{Emitters, decode, record_atom, record_emitters}
use Rattle.passes.specs.Eager.{Went, LoweredEager, Ready, sheet_atoms}
use Rattle.advancing.specs.declared.advance.Scheduler.{Scheduler}

-- the emitters of a scheduler
abbrev pub emitters_of : Scheduler → Emitters
emitters_of d = map decode d.emitters

-- its arrays have 64 places, with room in the order for the atoms that are left
pub record Prepared (x : List ℕ) (d : Scheduler) : Type 0 where
  pub ready : Ready x d.used d.bound d.order d.count
  pub emitters : length d.emitters ≡ bound_most

-- atom number i, by its frame f, is lowered: c of the order are filled before, one more behind
pub record Takes (f : List ℕ) (i : ℕ) (U B : Bound) (O : List ℕ) (c : ℕ) (U' C : Bound) (P : List ℕ) (d : ℕ) : Type 0 where
  pub went : (atomAt : ℕ → Atom) (js : List ℕ) → atomAt i ≡ atom_of_frame f → Memᴰ i js → Went atomAt js (emit_at atomAt js i) U B O c U' C P d
  pub used : U' ≡ add U i

-- an eager round leads from d to e, and the emitters of what it lowered are recorded
pub record Advances (x : List ℕ) (d e : Scheduler) : Type 0 where
  pub went : LoweredEager x d.used d.bound d.order d.count e.used e.bound e.order e.count
  pub emitters : emitters_of e ≡ record_emitters d.before e.used 0 (sheet_atoms x) (emitters_of d)
  pub size : length e.emitters ≡ bound_most

-- the atom chosen, number i, is lowered, and its emitters recorded
pub record TakesNext (x : List ℕ) (i : ℕ) (d e : Scheduler) : Type 0 where
  pub went : Went (atom_of (sheet_atoms x)) (numbers (sheet_atoms x)) (emit_at (atom_of (sheet_atoms x)) (numbers (sheet_atoms x)) i) d.used d.bound d.order d.count e.used e.bound e.order e.count
  pub used : e.used ≡ add d.used i
  pub emitters : emitters_of e ≡ record_atom (emitters_of d) i (atom_of (sheet_atoms x) i)
  pub before : e.before ≡ e.used
  pub size : length e.emitters ≡ bound_most
