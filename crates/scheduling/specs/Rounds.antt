-- The rounds of the scheduler over arrays: the atoms that were lowered, in order, and what the costs remember.
use Rattle.std.specs.Prelude.{ℕ, suc, ◌≤◌, ◌≡◌, length, take, Some, None}
use Rattle.std.specs.Prelude.{Option as OptionOf}
use Rattle.std.proofs.Math.Option.{Option, none, some}
use mathlib.Core.List.{List, Memᴰ, map}
use Rattle.query.specs.Sheet.{frames_in}
use Rattle.query.specs.Atoms.{Step}
use Rattle.query.specs.Bound.{Bound, bound_most, blank}
use Rattle.query.specs.Lowering.{Lowered}
use Rattle.cost.specs.Scheduling.{Progress, atom_of, numbers}
use Rattle.cost.specs.Choice.{Memory, rounds, planned, remembered}
use Rattle.round_choice.specs.Eager.{state, sheet_atoms}
use Rattle.round_choice.specs.CostBits.{cost_bits}
use Rattle.scheduling.specs.declared.schedule.Scheduled.{Scheduled}

-- the atom chosen in the last round, where one was found
abbrev pub chosen_of : OptionOf ℕ → Option ℕ
chosen_of (Some i) = some i
chosen_of None = none

-- where the rounds stand: the lowering of the first atoms of the order, from the start on; the tallies, and the choice
pub record Ordering (x : List ℕ) (p : Progress Memory) (r : Scheduled) : Type 0 where
  pub used : Bound
  pub bound : Bound
  pub steps : List Step
  pub is : p.state ≡ state used bound steps
  pub lowered : Lowered (atom_of (sheet_atoms x)) blank steps bound (take r.count r.order)
  pub known : (k : ℕ) → Memᴰ k (take r.count r.order) → Memᴰ k (numbers (sheet_atoms x))
  pub few : r.count ≤ bound_most
  pub size : length r.order ≡ bound_most
  pub tallied : p.memory.tally.tallied ≡ r.tallied
  pub rejected : p.memory.tally.rejected ≡ r.rejected
  pub chosen : p.memory.chosen ≡ chosen_of r.chosen

-- the plan of the query x
abbrev pub Scheduling : List ℕ → Scheduled → Type 0
Scheduling x r = Ordering x (record { state = planned (frames_in x) (sheet_atoms x); memory = remembered (frames_in x) (sheet_atoms x) }) r

-- the rounds of the query x up to number `last`, and the costs of the last one that was made
pub record Rounded (x : List ℕ) (last : ℕ) (costs : List ℕ) (r : Scheduled) : Type 0 where
  pub order : Ordering x (rounds (frames_in x) (sheet_atoms x) (suc last)) r
  pub costs_are : length (sheet_atoms x) ≤ length costs → take (length (sheet_atoms x)) costs ≡ map cost_bits (rounds (frames_in x) (sheet_atoms x) (suc last)).memory.costs
