-- The whole test, one part after another. Assumes nothing.
use Prim.Native.Nat.{ℕ, ◌+◌}
use mathlib.Core.Path.{◌≡◌, refl, sym, ap, ◌∙◌, subst}
use mathlib.Core.List.{List}
use lib.ListN.{length-map}
use native.Mathlib.Omega.{arith}
use Rattle.frames.specs.Sheet.{frames_in}
use Rattle.join_tests.specs.Atoms.{Row, Node, Literal}
use Rattle.join_tests.specs.Leaders.{leader_in, led_row, standing}
use Rattle.join_tests.proofs.LeaderLaws.{standing_fits}
use Rattle.table_tests.specs.Tables.{table_in}
use Rattle.step_tests.proofs.DistinctRows.{table_rows}
use Rattle.join_tests.specs.Arrays.{shape_of, Shaped}
use Rattle.step_tests.specs.Steps.{Described}
use Rattle.std.specs.Prelude.{Result, Ok, Err}
use Rattle.table_tests.specs.Refusal.{Refusal}
use Rattle.table_tests.specs.Shapes.{TableNoted}
use Rattle.table_tests.specs.Globals.{GlobalsRead}
use Rattle.validation.specs.Plans.{PlanSheet, PlanReady, StepsTested, Validated}

module _ (x y : List ℕ) (v : Result (Unit {0}) Refusal) (F : List ℕ) (s : TableNoted y v F) where
  pub shapes_refuse : (f : Refusal) (G : List ℕ) → v ≡ Err f → Validated x y (Err f) G
  shapes_refuse f G e = record { is = rw (← s.is, e); globals = λ q. let z : ◌≡◌ {A = ℕ} 0 1 = cc in absurd (omega arith) }

  module _ (G : List ℕ) (e : v ≡ Ok tt) (g : GlobalsRead y G) where
    -- a row by leaders has the shape that it has as it is written
    shape_kept : (r : Row) → shape_of (led_row (leader_in (frames_in y)) r) ≡ shape_of r
    shape_kept (Node c o ds) = ap (λ (n : ℕ). 2 + n) (length-map ds (leader_in (frames_in y)))
    shape_kept (Literal c o x) = refl

    stood : Shaped F (standing (frames_in y))
    stood = let w = s.shaped e in record { size = w.size; is = λ P h q o. standing_fits (frames_in y) P (λ r. q _ ∙ ap h (shape_kept r) ∙ sym (q r)) o ∙ w.is P h q o }

    speaks : Described (table_in (frames_in y)) F G
    speaks = record { shaped = subst (Shaped F) (sym (table_rows (frames_in y))) stood; globals = g.is }

    pub plan_ready : PlanSheet x → PlanReady x F G
    plan_ready p = record { plan = p; table = table_in (frames_in y); described = speaks }

    pub steps_decide : (r : Result (Unit {0}) Refusal) → StepsTested x F G r → Validated x y r G
    steps_decide r d = record { is = d.is (table_in (frames_in y)) speaks ∙ rw (← s.is, e); globals = λ _. g.is }
