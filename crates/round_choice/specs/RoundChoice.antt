-- A round over arrays: the eager round, the choice behind it, and the room that the choice asks of the memo.
use Rattle.cost.specs.Settings.{Sampled}
use Rattle.std.specs.Prelude.{ℕ, ◌≤◌, List, length, Float}
use Rattle.std.proofs.Math.Option.{none}
use Rattle.cost.specs.Sheet.{frames_in}
use Rattle.cost.specs.Atoms.{Step}
use Rattle.cost.specs.Bound.{Bound}
use Rattle.cost.specs.Scheduling.{State, lower_eager, atom_of, numbers}
use Rattle.cost.specs.Emitters.{Emitters, record_emitters}
use Rattle.cost.specs.Sampling.{Tally}
use Rattle.cost.specs.Memo.{tally_at}
use Rattle.cost.specs.Choice.{offers}
use Rattle.cost.specs.declared.memo.Sampling.{Sampling}
use Rattle.choosing.specs.Eager.{state, sheet_atoms}
use Rattle.choosing.specs.Advancing.{emitters_of, Advances}
use Rattle.choosing.specs.Choosing.{candidates, Chose}
use Rattle.choosing.specs.Scheduler.{Scheduler}
use Rattle.round_choice.specs.declared.next.Round.{Round}

-- an eager round from d, and the choice behind it with its costs
pub record Chooses (x : List ℕ) (how : Sampled) (d : Scheduler) (keys : List ℕ) (s : Sampling) (keys' : List ℕ) (values' : List Float) (costs' : List ℕ) (r : Round) : Type 0 where
  pub advanced : Advances x d r.state
  pub chose : Chose (frames_in x) how keys' values' costs' r.best (candidates (frames_in x) (emitters_of r.state) (sheet_atoms x) r.state.used r.state.bound (numbers (sheet_atoms x)) (tally_at keys s) none) (offers (frames_in x) (emitters_of r.state) (sheet_atoms x) r.state.used r.state.bound (numbers (sheet_atoms x)) (tally_at keys s))

-- the tally behind a choice from the state st, with the emitters of what is new in it
abbrev pub round_tally : List ℕ → State → Bound → Emitters → List ℕ → Sampling → Tally
round_tally x st b E keys s =
    (candidates (frames_in x) (record_emitters b st.used 0 (sheet_atoms x) E) (sheet_atoms x) st.used st.bound (numbers (sheet_atoms x)) (tally_at keys s) none).next

-- the memo has room for what the choice behind the eager round asks
pub record RoundRoom (x : List ℕ) (d : Scheduler) (keys : List ℕ) (s : Sampling) : Type 0 where
  pub steps : List Step
  pub room : length (round_tally x (lower_eager (atom_of (sheet_atoms x)) (numbers (sheet_atoms x)) (state d.used d.bound steps)) d.before (emitters_of d) keys s).memo ≤ length keys
