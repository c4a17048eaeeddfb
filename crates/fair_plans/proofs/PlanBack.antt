-- A plan of an accepted query as the runner reads it: its text is accepted, and gives the scheduler's steps and the query's counts; the planner's plan is
-- one by a fair choice. Proved from what is said of the plan as written.
use Prim.Native.Nat.{ℕ, ◌+◌, ◌<◌}
use mathlib.Core.Path.{◌≡◌, refl, ap, ◌∙◌}
use mathlib.Core.Option.{Option}
use mathlib.Core.List.{List, map}
use native.Mathlib.Omega.{arith}
use lib.ListN.{length, get_or}
use Rattle.running.specs.Digits.{bytes_of}
use Rattle.running.proofs.Bytes.{byte_back}
use Rattle.running.specs.First.{frames_of, first_line}
use Rattle.running.specs.Text.TheVariants.{Query, Plan}
use Rattle.running.specs.Reading.{Accepted}
use Rattle.running.specs.Second.{reading}
use Rattle.running.proofs.Whole.{query_within}
use Rattle.running.specs.Atoms.{Step}
use Rattle.running.specs.StepFrames.{frame_of, header_of}
use Rattle.running.specs.PlanText.{plan_text}
use Rattle.running.proofs.Texts.{text_first}
use Rattle.fitting.specs.QueryPlans.{atoms_of, count_at, ReadBack}
use Rattle.fitting.proofs.QueryPlansLaws.{plan_read_back}
use Rattle.fitting.specs.Choice.{Memory, fresh, choose, planned}
use Rattle.fitting.proofs.ChoiceLaws.{choose_fair}
use Rattle.fitting.specs.Planner.{given, steps_of, tallied_of, rejected_of, plan_of}
use Rattle.fitting.proofs.Accepted.{few_keys}
use Rattle.running.specs.Tables.{counts_in, line_counts, plan_steps, steps_in}
use Rattle.fair_plans.specs.Terms.{plan_for, FairPlan, fair_steps, line_of}

-- the header's counts, in a plan's text
module _ (v g l t r : ℕ) (ss : List Step) where
  variables_back : v < 256 → get_or (bytes_of (first_line (plan_text v g l t r ss))) 1 0 ≡ v
  unfolding plan_text
  variables_back h = rw (text_first (header_of v g l (length ss) t r) (map frame_of ss)) (byte_back v h)

  literals_back : l < 256 → get_or (bytes_of (first_line (plan_text v g l t r ss))) 3 0 ≡ l
  unfolding plan_text
  literals_back h = rw (text_first (header_of v g l (length ss) t r) (map frame_of ss)) (byte_back l h)

module _ (x : List ℕ) (n c : ℕ) (ok : reading Query x ≡ Accepted n c) where
  -- the planner's plan is by a fair choice, whatever table is handed in
  pub planner_fair : (h : Option (List ℕ)) → FairPlan x (plan_for x h)
  unfolding plan_of steps_of planned
  planner_fair h =
      let k = few_keys x n c ok (given x h) in
      record {
        Memory = Memory;
        choose = choose (given x h) (atoms_of x);
        start = fresh;
        fair = choose_fair (given x h) (atoms_of x);
        tallied = tallied_of x h;
        rejected = rejected_of x h;
        tallied_few = omega (arith, k.tallied_few);
        rejected_few = omega (arith, k.rejected_few);
        text = refl;
      }

  module _ (p : List ℕ) (f : FairPlan x p) where
    back : ReadBack x f.tallied f.rejected (fair_steps f)
    back = plan_read_back x n c ok f.choose f.start f.fair f.tallied f.rejected f.tallied_few f.rejected_few

    pub plan_accepted : reading Plan p ≡ Accepted (1 + length (fair_steps f)) 0
    plan_accepted = ap (reading Plan) f.text ∙ back.accepts

    pub plan_steps_lem : plan_steps p ≡ fair_steps f
    unfolding steps_in
    plan_steps_lem = ap (λ (q : List ℕ). steps_in (frames_of q)) f.text ∙ back.gives

    plan_variables : (counts_in p).variables ≡ count_at x 1
    plan_variables = let w = (query_within x n c ok).header.variables in rw f.text (variables_back (count_at x 1) (count_at x 2) (count_at x 3) f.tallied f.rejected (fair_steps f) (omega arith))

    plan_literals : (counts_in p).literals ≡ count_at x 3
    plan_literals = let w = (query_within x n c ok).header.literals in rw f.text (literals_back (count_at x 1) (count_at x 2) (count_at x 3) f.tallied f.rejected (fair_steps f) (omega arith))

    pub plan_counts_lem : line_counts p ≡ line_of x
    plan_counts_lem = λ i. record { variables = plan_variables i; literals = plan_literals i; sequences = 0 }
