-- The planner's answer as one number. Proved by what the answer is.
use Prim.Native.Nat.{ℕ, zero, suc, ◌≤◌}
use mathlib.Core.Path.{◌≡◌, refl, ap, ◌∙◌, sym}
use mathlib.Core.Bool.{Bool}
use mathlib.Core.List.{List}
use native.Mathlib.Omega.{arith}
use borrow.Author.Tests.{ne_eqb}
use Rattle.round_costs.specs.Planner.{Result, plan}
use Rattle.planner.proofs.AnswerBounds.{Within, plan_within}
use Rattle.round_costs.specs.Entry.{planned_answer, planned_result}
use denote.Ref.{Bor}
use Rattle.std.specs.Prelude.{Ok, Err}
use Rattle.std.specs.Prelude.{Option as OptionOf, Result as ResultOf}
use Rattle.round_costs.specs.Refusal.{Refusal}
use Rattle.round_costs.specs.Written.{Written}
use Rattle.round_costs.specs.Handed.{handed_if, handed}
use Rattle.exports.specs.Plans.{packed_answer, packed_planned}

-- a refusal has a number, and a plan has bytes
packed_same : (p : ResultOf Written Refusal) → Within (planned_answer p) → packed_planned p ≡ packed_answer (planned_answer p)
packed_same (Ok w) b = refl
packed_same (Err f) b = by f.number refl
  where
    by : (k : ℕ) → f.number ≡ k → packed_planned (Err f) ≡ packed_answer (planned_answer (Err f))
    by zero e = let z : 21 ≤ 0 = b.planned e in absurd (omega arith)
    by (suc k) e = rw (ne_eqb f.number 0 (λ z. omega arith)) refl

module _ (x t o p : List ℕ) (h : Bool) (b : OptionOf (Bor (List ℕ))) (q : handed b ≡ handed_if h t) (r : ResultOf Written Refusal) (e : planned_result r p ≡ plan x (handed b) o) where
  same : planned_result r p ≡ plan x (handed_if h t) o
  same = e ∙ rw q

  answers : planned_answer r ≡ (plan x (handed_if h t) o).answer
  answers = ap (λ (q : Result). q.answer) same

  pub planned_number : (n : ℕ) → n ≡ packed_planned r → n ≡ packed_answer (plan x (handed_if h t) o).answer
  planned_number n g = g ∙ packed_same r (rw answers (plan_within x (handed_if h t) o)) ∙ ap packed_answer answers

  pub planned_output : p ≡ (plan x (handed_if h t) o).output
  planned_output = ap (λ (q : Result). q.output) same
