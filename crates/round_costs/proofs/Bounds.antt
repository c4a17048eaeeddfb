-- How large the answer of a round can be: the atom that it chooses is one of the query's, as each choice is fair.
use Prim.Native.Nat.{ℕ, zero, suc, ◌<◌, ◌≤◌}
use mathlib.Core.Path.{◌≡◌, refl}
use mathlib.Core.Option.{Option, none, some}
use mathlib.Core.List.{List, Memᴰ}
use native.Mathlib.Omega.{arith}
use lib.ListN.{length}
use lib.Ieee.{Float}
use Rattle.first_reading.specs.First.{frames_of}
use Rattle.first_reading.specs.Text.TheVariants.{Query}
use Rattle.first_reading.specs.Reading.{Accepted}
use Rattle.reading.specs.Second.{reading}
use Rattle.fitting.proofs.Whole.{query_within}
use Rattle.buckets.specs.Atoms.{Atom}
use Rattle.buckets.proofs.TabulateLaws.{tabulate_mem}
use Rattle.buckets.specs.Scheduling.{State, atom_of, numbers, lower_eager, emit_at, go_on, rounds_up_to, unplanned}
use Rattle.fitting.specs.QueryAtoms.{atoms_in}
use Rattle.fitting.specs.Choice.{Memory, fresh, recorded, emitted_by, by_cost, choose, rounds_from}
use Rattle.fitting.proofs.ChoiceLaws.{choose_fair}
use Rattle.fitting.proofs.QueryPlansLaws.{atoms_number}
use Rattle.fitting.specs.Planner.{given}
use Rattle.fitting.proofs.ReadingsLaws.{readings_hold}
use Rattle.round_costs.specs.Costs.{Answer as RoundAnswer, Chosen, Ended, Invalid, Result, told_by, told, round_of, refused_with, round_costs}

-- the atom, where one is chosen, is one of n
Among : ℕ → Option ℕ → Type 0
Among n none = Unit {0}
Among n (some i) = i < n

module _ (fs : List (List ℕ)) (qs : List Atom) (n : ℕ) (few : length qs ≤ n) where
  known : (i : ℕ) → Memᴰ i (numbers qs) → i < n
  known i m = let a = tabulate_mem (length qs) (λ j. j) i m in omega (arith, a.below, a.is)

  emitted_among : (o : Option ℕ) (s : State) (m : Memory) → ((i : ℕ) → o ≡ some i → i < n) → Among n (emitted_by fs qs o s m).chosen
  unfolding Among
  emitted_among none s m h = tt
  emitted_among (some i) s m h = h i refl

  choice_among : (m : Memory) (s : State) → Among n (choose fs qs m s).next.chosen
  choice_among m s =
      let c = by_cost fs qs (recorded fs qs m s) s in
      emitted_among c.at s c.next (λ i e. known i ((choose_fair fs qs).known m s i e))

  rounds_among : (f : ℕ) (m : Memory) (st : State) → Among n m.chosen → Among n (rounds_from fs qs f m st).memory.chosen
  unfolding rounds_up_to
  rounds_among zero m st h = h
  rounds_among (suc f) m st h = on (choose fs qs m s).at (choose fs qs m s).next (λ x r. rounds_among f x r) (choice_among m s)
    where
      s : State
      s = lower_eager (atom_of qs) (numbers qs) st

      on : (o : Option ℕ) (x : Memory) → ((y : Memory) (r : State) → Among n y.chosen → Among n (rounds_from fs qs f y r).memory.chosen) → Among n x.chosen → Among n (go_on (atom_of qs) (numbers qs) (rounds_from fs qs f) o x s).memory.chosen
      on none x k h = h
      on (some i) x k h = k x (emit_at (atom_of qs) (numbers qs) i s) h

-- the atom that is chosen is below 64, as a query has at most 64; a refusal has its number, text and line within these bounds
abbrev pub RoundWithin : RoundAnswer → Type 0
RoundWithin (Chosen i) = i < 64
RoundWithin Ended = Unit {0}
RoundWithin (Invalid k t l) = (k ≤ 14) × ((t ≤ 2) × (l ≤ 32769))

told_within : (c : Option ℕ) (cs : List (Option Float)) (o : List ℕ) → Among 64 c → RoundWithin (told_by c cs o).answer
unfolding Among
told_within none cs o h = tt
told_within (some i) cs o h = h

module _ (x : List ℕ) (t : Option (List ℕ)) (round : ℕ) (o : List ℕ) where
  abbrev m : Memory
  m = round_of (given x t) (atoms_in (frames_of x)) round

  read_within : (n c : ℕ) → reading Query x ≡ Accepted n c → RoundWithin (told m o).answer
  unfolding Among
  read_within n c ok =
      let few : length (atoms_in (frames_of x)) ≤ 64 = omega (arith, atoms_number x n c ok, (query_within x n c ok).atoms) in
      told_within m.chosen m.costs o (rounds_among (given x t) (atoms_in (frames_of x)) 64 few (suc round) fresh unplanned tt)

  pub round_within : RoundWithin (round_costs x t round o).answer
  unfolding round_costs
  round_within =
      readings_hold (λ (r : Result). RoundWithin r.answer) (refused_with o) (λ k w l some most text line. (most, (text, line))) x t (told m o) read_within
