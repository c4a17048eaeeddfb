-- The bits of the costs of a round, and the round that is asked for. Proved place by place, and from what the rounds leave.
use Prim.Native.Nat.{ℕ, ◌≤◌}
use mathlib.Core.Path.{◌≡◌, refl, ◌∙◌, ap}
use mathlib.Core.Bool.{Bool, true, false}
use mathlib.Core.Option.{some}
use mathlib.Core.List.{List, ◌++◌, map}
use native.Mathlib.Omega.{arith}
use lib.ListN.{length, take}
use Rattle.reading.specs.Choose.{pick}
use Rattle.reading.specs.Sheet.{frames_in}
use Rattle.first_reading.specs.First.{frames_of, Sheet}
use Rattle.first_reading.specs.Text.TheVariants.{Table}
use Rattle.first_reading.specs.Reading.{Reading}
use Rattle.first_reading.specs.Reading.{Accepted, Refused}
use Rattle.reading.specs.Second.{reading, query_reading}
use Rattle.buckets.specs.Atoms.{Atom}
use Rattle.fitting.specs.QueryAtoms.{atoms_in}
use Rattle.given.specs.Asks.{asks_table}
use Rattle.given.specs.Sampled.{sampled_from}
use Rattle.placing.specs.Eager.{sheet_atoms}
use Rattle.cost_bits.specs.CostBits.{cost_bits}
use Rattle.fitting.specs.Rounds.{Rounded}
use Rattle.fitting.specs.Scheduled.{Scheduled}
use Rattle.fitting.proofs.OrderLaws.{sheet_atoms_lem}
use Rattle.fitting.specs.Planner.{given}
use Rattle.fitting.proofs.ReadingsLaws.{query_refused, read_alone, table_refused, read_both}
use Rattle.fitting.specs.Handed.{handed_if}
use Rattle.fitting.specs.Gathered.{Asks, Both}
use Rattle.round_costs.specs.Costs.{round_of, told, Result, round_result, refused_with, round_costs}
use Rattle.cost_bits.specs.ToldBits.{bits_in}
use Rattle.std.specs.Prelude.{Some, None, Ok, Err, is_some}
use Rattle.std.specs.Prelude.{Option as OptionOf}
use Rattle.first_reading.specs.declared.first.Refusal.{Refusal}
use Rattle.first_reading.specs.Text.TheVariants.{Query}

-- ---- the round, by what the rounds leave

module _ (x : List ℕ) (round : ℕ) (costs : List ℕ) (s : Scheduled) (h : Rounded x round costs s) (out o : List ℕ) where
  -- the costs, where an atom was chosen
  pub told_round : (n : ℕ) → n ≡ length (sheet_atoms x) → n ≤ length costs → (b : Bool) → b ≡ is_some s.chosen → o ≡ bits_in (take (pick b n 0) costs) (length out) → round_result (Ok s.chosen) o ≡ told (round_of (frames_in x) (sheet_atoms x) round) out
  told_round n c r b d e = by s.chosen refl
    where
      q : take n costs ≡ map cost_bits (round_of (frames_in x) (sheet_atoms x) round).costs
      q = ap (λ (k : ℕ). take k costs) c ∙ h.costs_are (omega arith)

      by : (w : OptionOf ℕ) → s.chosen ≡ w → round_result (Ok s.chosen) o ≡ told (round_of (frames_in x) (sheet_atoms x) round) out
      by None f = rw (e, d, h.order.chosen, f)
      by (Some i) f = rw (e, d, h.order.chosen, f, q)

-- ---- the entry, by what the readings say

module _ (x : List ℕ) (round : ℕ) (o : List ℕ) where
  -- the round by the frames that are given
  abbrev by_frames : List (List ℕ) → Result
  by_frames fs = told (round_of fs (atoms_in (frames_of x)) round) o

  same_costs : (fs gs : List (List ℕ)) (qs : List Atom) → fs ≡ gs → qs ≡ atoms_in (frames_of x) → told (round_of fs qs round) o ≡ by_frames gs
  same_costs fs gs qs e h = rw (e, h)

module _ (x t : List ℕ) (round : ℕ) (o : List ℕ) (h : Bool) (v : Reading) (is : v ≡ query_reading h x) where
  pub costs_back : (f : Refusal) → f.text ≡ Query → v ≡ Refused f.number f.line → round_result (Err f) o ≡ round_costs x (handed_if h t) round o
  unfolding round_costs
  costs_back f q e = rw q (query_refused (refused_with o) x t h v is f.number f.line e (by_frames x round o (given x (handed_if h t))))

  module _ (n c : ℕ) (e : v ≡ Accepted n c) (s : List ℕ) (g : Sheet x s) (b : Bool) (q : b ≡ asks_table (frames_in s)) where
    pub costs_whole : b ≡ false → (r : Result) → r ≡ told (round_of (frames_in s) (sheet_atoms s) round) o → r ≡ round_costs x (handed_if h t) round o
    unfolding round_costs
    costs_whole z r f =
        let w = same_costs x round o (frames_in s) (frames_of x) (sheet_atoms s) g.frames (ap atoms_in g.frames) in
        f ∙ w ∙ read_alone (refused_with o) x t h v is (by_frames x round o) n c e s g b q z

    pub costs_beside : (z : h ≡ true) → (r : Result) → r ≡ round_costs x (some t) round o → r ≡ round_costs x (handed_if h t) round o
    costs_beside z r f = f ∙ rw z

module _ (x t : List ℕ) (round : ℕ) (o : List ℕ) (a : Asks x) (q : asks_table (frames_of x) ≡ true) where
  pub table_back : (f : Refusal) → f.text ≡ Table → reading Table t ≡ Refused f.number f.line → round_result (Err f) o ≡ round_costs x (some t) round o
  unfolding round_costs
  table_back f z e = rw z (table_refused (refused_with o) x t a q f.number f.line e (by_frames x round o (given x (some t))))

  pub costs_sampled : (s i : List ℕ) (e : ℕ) → Both x t s i e → (r : Result) → r ≡ told (round_of (frames_in (take e s)) (sheet_atoms (take e s)) round) o → r ≡ round_costs x (some t) round o
  unfolding round_costs
  costs_sampled s i e b r f =
      let g : sheet_atoms (take e s) ≡ atoms_in (frames_of x) = sheet_atoms_lem (take e s) b.accepted.accepts ∙ ap (λ (y : List ℕ). atoms_in (frames_of y)) b.accepted.text in
      let w = same_costs x round o (frames_in (take e s)) (frames_of x ++ sampled_from (frames_of t)) (sheet_atoms (take e s)) b.frames g in
      f ∙ w ∙ read_both (refused_with o) x t a q (by_frames x round o) b.lines b.rows b.is
