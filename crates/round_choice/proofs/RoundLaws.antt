-- The memo has room for the choice behind an eager round.
use Prim.Native.Nat.{ℕ, ◌≤◌}
use mathlib.Core.Path.{subst}
use mathlib.Core.Option.{none}
use mathlib.Core.List.{List}
use lib.ListN.{length}
use Rattle.cost.specs.Sheet.{frames_in}
use Rattle.cost.specs.Scheduling.{State, numbers}
use Rattle.cost.specs.Memo.{tally_at}
use Rattle.cost.specs.declared.memo.Sampling.{Sampling}
use Rattle.choosing.specs.Eager.{sheet_atoms}
use Rattle.choosing.specs.Choosing.{candidates}
use Rattle.choosing.specs.Advancing.{emitters_of, Advances}
use Rattle.round_choice.specs.RoundChoice.{round_tally, RoundRoom}
use Rattle.choosing.specs.Scheduler.{Scheduler}

module _ (x : List ℕ) (d e : Scheduler) where
  pub choice_room : Advances x d e → (keys : List ℕ) (s : Sampling) → RoundRoom x d keys s → length (candidates (frames_in x) (emitters_of e) (sheet_atoms x) e.used e.bound (numbers (sheet_atoms x)) (tally_at keys s) none).next.memo ≤ length keys
  choice_room a keys s r = rw a.emitters (subst (λ (st : State). length (round_tally x st d.before (emitters_of d) keys s).memo ≤ length keys) (a.went.is r.steps) r.room)
