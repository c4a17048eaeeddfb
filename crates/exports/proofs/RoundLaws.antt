-- The answer of a round's costs as one number. Proved by what the answer is.
use Prim.Native.Nat.{ℕ}
use mathlib.Core.Path.{◌≡◌, ap, ◌∙◌, sym}
use mathlib.Core.Bool.{Bool}
use mathlib.Core.List.{List}
use Rattle.round_costs.specs.Costs.{Result, round_answer, round_result, round_costs}
use denote.Ref.{Bor}
use Rattle.std.specs.Prelude.{Option as OptionOf, Result as ResultOf}
use Rattle.round_costs.specs.Refusal.{Refusal}
use Rattle.round_costs.specs.Handed.{handed_if, handed}
use Rattle.exports.specs.Rounds.{packed_round}

module _ (x t : List ℕ) (round : ℕ) (o p : List ℕ) (h : Bool) (b : OptionOf (Bor (List ℕ))) (q : handed b ≡ handed_if h t) (r : ResultOf (OptionOf ℕ) Refusal) (e : round_result r p ≡ round_costs x (handed b) round o) where
  same : round_result r p ≡ round_costs x (handed_if h t) round o
  same = e ∙ rw q

  pub round_number : (n : ℕ) → n ≡ packed_round (round_answer r) → n ≡ packed_round (round_costs x (handed_if h t) round o).answer
  round_number n g = g ∙ ap (λ (q : Result). packed_round q.answer) same

  pub round_output : p ≡ (round_costs x (handed_if h t) round o).output
  round_output = ap (λ (q : Result). q.output) same
