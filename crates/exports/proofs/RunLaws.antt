-- The runner's answer as one number. Proved from what the run's result is.
use Prim.Native.Nat.{ℕ}
use mathlib.Core.Path.{◌≡◌, ap, ◌∙◌}
use mathlib.Core.List.{List}
use Rattle.run_answers.specs.Running.{Mode}
use Rattle.run_answers.specs.Run.{Outcome, Result, run}
use Rattle.run_answers.specs.Outcomes.{outcome_of, outcome_result}
use Rattle.std.specs.Prelude.{Result as ResultOf}
use Rattle.run_answers.specs.Ran.{Ran as RanAs}
use Rattle.run_answers.specs.Refusal.{Refusal}

module _ (p t o q : List ℕ) (md nd : Mode) (same : nd ≡ md) (A : ℕ) (r : ResultOf RanAs Refusal) (is : outcome_result r q ≡ run p t nd A o) where
  by_mode : outcome_result r q ≡ run p t md A o
  by_mode = rw same at is

  -- what is told of the outcome is told of the run's
  pub told_of_run : (f : Outcome → ℕ) (n : ℕ) → n ≡ f (outcome_of r) → n ≡ f (run p t md A o).outcome
  told_of_run f n h = h ∙ ap (λ (x : Result). f x.outcome) by_mode

  pub run_output : q ≡ (run p t md A o).output
  run_output = ap (λ (x : Result). x.output) by_mode
