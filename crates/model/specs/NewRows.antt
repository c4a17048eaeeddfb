-- Note 1: what it is that a match uses a new row. Assumes nothing.
use Rattle.std.specs.Prelude.{ℕ, ◌<◌, ◌≡◌, true, List, length}
use Rattle.model.specs.Atoms.{Atom, Table}
use Rattle.model.specs.Scheduling.{scans, atom_of}
use Rattle.model.specs.Matching.{Assignment, Holds, Line, assigned_by}

-- an atom that becomes a Join holds by a new row
pub record ByNew (tb : Table) (α : Assignment) (a : Atom) : Type 0 where
  pub joined : scans a ≡ true
  pub holds : Holds tb tb.new α a

-- one of the atoms does
pub record UsesNew (tb : Table) (qs : List Atom) (x : Line) : Type 0 where
  pub atom : ℕ
  pub below : atom < length qs
  pub by : ByNew tb (assigned_by x) (atom_of qs atom)
