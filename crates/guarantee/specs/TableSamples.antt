-- Note 3: "Where the guarantee on matches holds, the matches found may not depend on which of the two was used." The two: a sampler's sheets in the query
-- (frames 21 to 23), and a table handed in beside it (frame 24). Proved from `demand3` and `same_lines` of Demand3, as samples decide the order alone.
use Rattle.std.specs.Prelude.{ℕ, ◌≡◌, refl}
use Rattle.std.proofs.Math.Option.{Option, none}
use mathlib.Core.List.{List, Perm}
use Rattle.fair_plans.specs.Text.TheVariants.{Query}
use Rattle.fair_plans.specs.Reading.{Accepted}
use Rattle.fair_plans.specs.Second.{reading}
use Rattle.fair_plans.specs.Matching.{InShapes}
use Rattle.fair_plans.specs.QueryPlans.{atoms_of}
use Rattle.fair_plans.specs.Tables.{table_of}
use Rattle.fair_plans.specs.Validation.{Passed, validation}
use Rattle.fair_plans.specs.Run.{run}
use Rattle.fair_plans.specs.Terms.{plan_for, Runs, Enough, Finds, Alike}
use Rattle.guarantee.specs.Demand3.{demand3, same_lines}

-- "Where the guarantee on matches holds": the query x, accepted, runs; h is handed in beside it, or nothing; the run of its plan over the table text t, in
-- shape, is not refused; allowance A and output o are enough
pub record Holds (x : List ℕ) (h : Option (List ℕ)) (t : List ℕ) (A : ℕ) (o : List ℕ) : Type 0 where
  pub lines : ℕ
  pub atoms : ℕ
  pub accepted : reading Query x ≡ Accepted lines atoms
  pub runs : Runs x
  pub in_shape_lem : InShapes (table_of t) (atoms_of x)
  pub passed : validation (plan_for x h) t ≡ Passed
  pub enough : Enough (plan_for x h) t none A o

-- what that run finds
abbrev pub found : {x : List ℕ} {h : Option (List ℕ)} {t : List ℕ} {A : ℕ} {o : List ℕ} → Holds x h t A o → Finds x (plan_for x h) t none o (run (plan_for x h) t none A o)
found {x} {h} {t} {A} {o} p = demand3 x h t p.lines p.atoms p.accepted p.runs p.passed p.in_shape_lem A o p.enough

-- "the matches found may not depend on which of the two was used": of two queries alike in header and atoms, the one with sheets, the other with frame 24, or
-- neither with either, and whatever tables are handed in beside them, the runs write the same lines, as often.
pub samples_alike : (x y : List ℕ) → Alike x y → (h g : Option (List ℕ)) (t : List ℕ) (A B : ℕ) (o u : List ℕ) (p : Holds x h t A o) (q : Holds y g t B u)
    → Perm (found p).lines (found q).lines
samples_alike x y s h g t A B o u p q = same_lines x y (plan_for x h) (plan_for y g) t s o _ (found p) u _ (found q)

-- .. and so one query, with two tables handed in, or one, or none
pub tables_alike : (x : List ℕ) (h g : Option (List ℕ)) (t : List ℕ) (A B : ℕ) (o u : List ℕ) (p : Holds x h t A o) (q : Holds x g t B u)
    → Perm (found p).lines (found q).lines
tables_alike x = samples_alike x x (record { variables = refl; literals = refl; atoms = record { to = λ a m. m; back = λ a m. m } })
