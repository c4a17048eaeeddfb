-- The second entry for a plan of an accepted query, whatever atom the run names and where it names none: a match that it returns is one, and it says
-- none "exactly if none exists and the run ended". (That it says spent exactly where the full run is spent without a match holds of every plan: Second of
-- the crate running.) Proved from the lines' exactness.
use Rattle.std.specs.Prelude.{ℕ, ◌≤◌, ◌≡◌, refl, List, map}
use Rattle.std.proofs.Common.{sym, ◌∙◌, ap, subst, arith}
use Rattle.fair_plans.specs.Text.TheVariants.{Query}
use Rattle.fair_plans.specs.Reading.{Accepted}
use Rattle.fair_plans.specs.Second.{reading}
use Rattle.fair_plans.specs.Running.{Mode, Env, Event, runs, trace, attempts}
use Rattle.fair_plans.specs.Matching.{InShapes, Line, line, IsMatch, Exact}
use Rattle.fair_plans.specs.Limits.{Answer, SomeMatch, NoMatch, OutOfTries, Answers}
use Rattle.fair_plans.proofs.Answered.{none_to, none_back, some_is}
use Rattle.fair_plans.specs.QueryPlans.{atoms_of}
use Rattle.fair_plans.specs.Tables.{table_of}
use Rattle.fair_plans.specs.Validation.{Passed, validation_with}
use Rattle.fair_plans.specs.Run.{unbound, events, match_line, Match, None, replied, Replies, rejects, answers}
use Rattle.fair_plans.specs.Terms.{FairPlan, fair_steps, line_of, Runs}
use Rattle.fair_plans.proofs.PlanBack.{plan_steps_lem, plan_counts_lem}
use Rattle.fair_plans.proofs.Found.{tests_passed, events_are, lines_exact}

-- the line y is a match of the query x over the table t; md: the atom that the run names, or none
abbrev pub MatchOf : List ℕ → List ℕ → Mode → Line → Type 0
MatchOf x t md y = IsMatch (table_of t) md (line_of x) (atoms_of x) y

-- no match exists, and the run ends with allowance A
pub record NoneExists (x p t : List ℕ) (md : Mode) (A : ℕ) : Type 0 where
  pub none_holds : (y : Line) → MatchOf x t md y → ⊥
  pub ended : attempts (events p t md) ≤ A

-- an accepted query that runs, a plan of it by a fair choice, a table in shape, a run that is not refused, its allowance
module _ (x p t : List ℕ) (md : Mode) (n c : ℕ) (ok : reading Query x ≡ Accepted n c) (f : FairPlan x p) (q : Runs x)
    (passed : validation_with p t md ≡ Passed) (sh : InShapes (table_of t) (atoms_of x)) (A : ℕ) where
  es : events p t md ≡ trace (table_of t) md (fair_steps f) unbound
  es = events_are p t md (line_of x) (fair_steps f) (plan_steps_lem x n c ok p f) (plan_counts_lem x n c ok p f)

  exact : Exact (table_of t) md (line_of x) (atoms_of x) (map (line (line_of x)) (runs (table_of t) md (fair_steps f) unbound))
  exact = lines_exact x p t n c ok f q (tests_passed p t md passed) sh md

  pub none_exists : Replies p t md A None → NoneExists x p t md A
  none_exists (rejects k y l h e) = let z : ◌≡◌ {A = ℕ} 0 1 = cc in absurd (omega arith)
  none_exists (answers a h w e) = by a (subst (λ (k : List Event). Answers A k a) es w) e
    where
      by : (a : Answer) → Answers A (trace (table_of t) md (fair_steps f) unbound) a → None ≡ replied p a → NoneExists x p t md A
      by (SomeMatch σ) w e = let z : ◌≡◌ {A = ℕ} 0 1 = cc in absurd (omega arith)
      by OutOfTries w e = let z : ◌≡◌ {A = ℕ} 0 1 = cc in absurd (omega arith)
      by NoMatch w e =
          let r = none_to (table_of t) md (line_of x) (atoms_of x) (fair_steps f) unbound exact A w in
          record { none_holds = r.none_holds; ended = rw es r.ended }

  pub none_said : NoneExists x p t md A → Replies p t md A None
  none_said h =
      answers NoMatch passed (subst (λ (k : List Event). Answers A k NoMatch) (sym es)
      (none_back (table_of t) md (line_of x) (atoms_of x) (fair_steps f) unbound exact A (record { none_holds = h.none_holds; ended = rw es at h.ended }))) refl

  pub match_is : (y : Line) → Replies p t md A (Match y) → MatchOf x t md y
  match_is y (rejects k u l h e) = let z : ◌≡◌ {A = ℕ} 0 1 = cc in absurd (omega arith)
  match_is y (answers a h w e) = by a (subst (λ (k : List Event). Answers A k a) es w) e
    where
      same : (σ : Env) → match_line p σ ≡ line (line_of x) σ
      same σ = ap (λ k. line k σ) (plan_counts_lem x n c ok p f)

      by : (a : Answer) → Answers A (trace (table_of t) md (fair_steps f) unbound) a → Match y ≡ replied p a → MatchOf x t md y
      by NoMatch w e = let z : ◌≡◌ {A = ℕ} 0 1 = cc in absurd (omega arith)
      by OutOfTries w e = let z : ◌≡◌ {A = ℕ} 0 1 = cc in absurd (omega arith)
      by (SomeMatch σ) w e =
          let z : match_line p σ ≡ y = cc in
          subst (MatchOf x t md) (sym (same σ) ∙ z) (some_is (table_of t) md (line_of x) (atoms_of x) (fair_steps f) unbound exact A σ w)
