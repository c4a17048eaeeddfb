-- Eager passes over the atoms of a sheet: what is lowered, what is bound, and in which order.
use Rattle.std.specs.Prelude.{ℕ, ◌+◌, ◌<◌, ◌≤◌, ◌≡◌, length, get_or, take}
use mathlib.Core.List.{List, ◌++◌, Memᴰ}
use Rattle.lowering.specs.Sheet.{frame_at, frames_in}
use Rattle.lowering.specs.Atoms.{Atom, Step}
use Rattle.lowering.specs.Bound.{Bound, add_all, bound_most}
use Rattle.lowering.specs.Lowering.{Lowered}
use Rattle.lowering.specs.Scheduling.{State, unlowered, try_at, eager_pass, lower_eager, atom_of, numbers}
use Rattle.lowering.specs.QueryAtoms.{atom_of_frame, atoms_in}
use Rattle.lowering.specs.AtomLines.{AtomLine}

abbrev pub state : Bound → Bound → List Step → State
state U B ss = record { used = U; bound = B; steps = ss }

-- `go` leads from the lowered atoms U and the bound variables B to U' and C, whatever the steps before; c of the order O are filled before, d of P behind it:
-- the new ones are the atoms that it lowers, in order
pub record Went (atomAt : ℕ → Atom) (js : List ℕ) (go : State → State) (U B : Bound) (O : List ℕ) (c : ℕ) (U' C : Bound) (P : List ℕ) (d : ℕ) : Type 0 where
  pub new : List ℕ
  pub steps : List Step
  pub lowered : Lowered atomAt B steps C new
  pub is : (ss : List Step) → go (state U B ss) ≡ state U' C (ss ++ steps)
  pub used : U' ≡ add_all U new
  pub known : (k : ℕ) → Memᴰ k new → Memᴰ k js
  pub order : take d P ≡ take c O ++ new
  pub count : d ≡ c + length new
  pub left : d + unlowered U' js ≤ c + unlowered U js
  pub used_size : length U' ≡ length U
  pub bound_size : length C ≡ length B
  pub order_size : length P ≡ length O

-- one atom, number i, by its frame f
pub record Tries (f : List ℕ) (i : ℕ) (U B : Bound) (O : List ℕ) (c : ℕ) (U' C : Bound) (P : List ℕ) (d : ℕ) : Type 0 where
  pub went : (atomAt : ℕ → Atom) (js : List ℕ) → atomAt i ≡ atom_of_frame f → Memᴰ i js → Went atomAt js (try_at atomAt js i) U B O c U' C P d

-- the atoms of a sheet
abbrev pub sheet_atoms : List ℕ → List Atom
sheet_atoms x = atoms_in (frames_in x)

-- `from` has the place where the frame of atom k begins, and 64 places behind it the one where it ends
pub record Lined (x from : List ℕ) (k : ℕ) : Type 0 where
  pub within : get_or from (k + bound_most) 0 ≤ length x
  pub ends : get_or from (k + bound_most) 0 ≡ get_or from k 0 + length (frame_at x (get_or from k 0))

-- the first n of `from` are where the atoms' frames begin
pub record Located (x from : List ℕ) (n : ℕ) : Type 0 where
  pub count : n ≡ length (sheet_atoms x)
  pub few : n ≤ bound_most
  pub size : n + bound_most ≤ length from
  pub within : (k : ℕ) → k < n → Lined x from k
  pub is : (k : ℕ) → k < n → atom_of (sheet_atoms x) k ≡ atom_of_frame (frame_at x (get_or from k 0))
  pub line : (k : ℕ) → k < n → AtomLine (frame_at x (get_or from k 0))

-- arrays of 64 places, with room in the order for the atoms that are left
pub record Ready (x : List ℕ) (U B : Bound) (O : List ℕ) (c : ℕ) : Type 0 where
  pub used : length U ≡ bound_most
  pub bound : length B ≡ bound_most
  pub order : length O ≡ bound_most
  pub room : c + unlowered U (numbers (sheet_atoms x)) ≤ bound_most

-- a pass over the atoms, and passes until one lowers nothing
abbrev pub Passed : List ℕ → Bound → Bound → List ℕ → ℕ → Bound → Bound → List ℕ → ℕ → Type 0
Passed x = Went (atom_of (sheet_atoms x)) (numbers (sheet_atoms x)) (eager_pass (atom_of (sheet_atoms x)) (numbers (sheet_atoms x)) (numbers (sheet_atoms x)))

abbrev pub LoweredEager : List ℕ → Bound → Bound → List ℕ → ℕ → Bound → Bound → List ℕ → ℕ → Type 0
LoweredEager x = Went (atom_of (sheet_atoms x)) (numbers (sheet_atoms x)) (lower_eager (atom_of (sheet_atoms x)) (numbers (sheet_atoms x)))
