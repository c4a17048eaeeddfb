-- The choice by cost is fair, so all that `model` proves of any fair choice holds of it.
use Prim.Native.Nat.{ℕ}
use mathlib.Core.List.{List}
use lib.Ieee.{lt}
use Rattle.samplers.specs.Atoms.{Atom}
use Rattle.samplers.specs.Scheduling.{Fair, atom_of, numbers}
use Rattle.samplers.proofs.CheapestLaws.{cheapest_fair, fair_around}
use Rattle.cost.specs.Choice.{recorded, cost, emitted_by, by_cost, choose}

pub choose_fair : (fs : List (List ℕ)) (qs : List Atom) → Fair (atom_of qs) (numbers qs) (choose fs qs)
choose_fair fs qs = fair_around (atom_of qs) (numbers qs) (by_cost fs qs) (recorded fs qs) (λ s c. emitted_by fs qs c.at s c.next) (cheapest_fair (atom_of qs) (numbers qs) (cost fs qs) lt)
