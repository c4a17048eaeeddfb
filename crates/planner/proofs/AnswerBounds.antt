-- How large the planner's answers can be. What is refused goes by the bounds of a reading, a plan by what is proved of its text, steps and
-- tallies.
use Prim.Native.Nat.{ℕ, ◌≤◌}
use mathlib.Core.Path.{◌≡◌}
use mathlib.Core.Option.{Option}
use mathlib.Core.List.{List}
use native.Mathlib.Omega.{arith}
use lib.ListN.{length}
use lib.Dec.{ltb}
use Rattle.reading.proofs.ChooseLaws.{pick_elim}
use Rattle.reading.specs.Kinds.{query}
use Rattle.reading.specs.Text.TheVariants.{Query}
use Rattle.reading.specs.Reading.{Accepted}
use Rattle.reading.specs.Second.{reading}
use Rattle.lent_planning.specs.Planner.{Answer, Result, given, plan, plan_of, steps_of, written, fitted, refused_with}
use Rattle.lent_planning.proofs.Accepted.{few_keys}
use Rattle.lent_planning.specs.Promised.{read_back}
use Rattle.lent_planning.proofs.ReadingsLaws.{readings_hold}

pub record Within (a : Answer) : Type 0 where
  pub number : a.number ≤ 14
  pub text : a.text ≤ 2
  pub planned : a.number ≡ 0 → 21 ≤ a.bytes
  pub line : a.line ≤ 32769
  pub bytes : a.bytes ≤ 20565
  pub steps : a.steps ≤ 1088
  pub tallied : a.tallied ≤ 1024
  pub rejected : a.rejected ≤ 1024

back_within : (o : List ℕ) (k t l : ℕ) → 1 ≤ k → k ≤ 14 → t ≤ 2 → l ≤ 32769 → Within (refused_with o k t l).answer
back_within o k t l h g u m = record { number = g; text = u; planned = λ q. absurd (omega arith); line = m; bytes = omega arith; steps = omega arith; tallied = omega arith; rejected = omega arith }

module _ (x : List ℕ) (t : Option (List ℕ)) (o : List ℕ) where
  -- 8, or the plan
  fitted_within : (n c : ℕ) → reading Query x ≡ Accepted n c → Within (fitted (plan_of x t) o).answer
  unfolding plan_of steps_of
  fitted_within n c ok =
      let b = read_back x t n c ok in
      let k = few_keys x n c ok (given x t) in
      pick_elim (λ (r : Result). Within r.answer) (ltb (length o) (length (plan_of x t).text)) (refused_with o 8 query 0) (written (plan_of x t) o)
      (λ _. back_within o 8 query 0 (omega arith) (omega arith) (omega arith) (omega arith))
      (λ _. record { number = omega arith; text = omega arith; planned = λ q. omega (arith, b.long); line = omega arith; bytes = b.short; steps = b.few; tallied = k.tallied_few; rejected = k.rejected_few })

  pub plan_within : Within (plan x t o).answer
  unfolding plan
  plan_within = readings_hold (λ (r : Result). Within r.answer) (refused_with o) (back_within o) x t (fitted (plan_of x t) o) fitted_within
