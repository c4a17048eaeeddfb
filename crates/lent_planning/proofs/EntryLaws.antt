-- The entry, by what the readings say. Proved from the readings and the plan of a sheet.
use Prim.Native.Nat.{ℕ}
use mathlib.Core.Path.{◌≡◌, ◌∙◌, ap}
use mathlib.Core.Bool.{Bool, true, false}
use mathlib.Core.Option.{some}
use mathlib.Core.List.{List, ◌++◌}
use lib.ListN.{take}
use Rattle.reading.specs.Sheet.{frames_in}
use Rattle.first_reading.specs.First.{frames_of, Sheet}
use Rattle.first_reading.specs.Text.TheVariants.{Table}
use Rattle.first_reading.specs.Reading.{Reading}
use Rattle.first_reading.specs.Reading.{Accepted, Refused}
use Rattle.reading.specs.Second.{reading, query_reading}
use Rattle.given.specs.Asks.{asks_table}
use Rattle.given.specs.Sampled.{sampled_from}
use Rattle.fitting.specs.Planner.{Plan, Result, plan_with, plan_of, fitted, refused_with, plan}
use Rattle.fitting.specs.Entry.{plan_on, planned_result}
use Rattle.std.specs.Prelude.{Err}
use Rattle.first_reading.specs.declared.first.Refusal.{Refusal}
use Rattle.first_reading.specs.Text.TheVariants.{Query}
use Rattle.fitting.proofs.FitLaws.{plan_on_lem}
use Rattle.fitting.proofs.ReadingsLaws.{query_refused, read_alone, table_refused, read_both}
use Rattle.fitting.specs.Handed.{handed_if}
use Rattle.fitting.specs.Gathered.{Asks, Both}

module _ (x o : List ℕ) where
  -- the plan by the frames that are given, where it fits
  abbrev by_frames : List (List ℕ) → Result
  by_frames fs = fitted (plan_with fs x) o

  sheet_plan : (s : List ℕ) → Sheet x s → fitted (plan_on s) o ≡ by_frames (frames_of x)
  sheet_plan s g = rw (g.header, g.frames)

  same_plan : (fs gs : List (List ℕ)) (y : List ℕ) → fs ≡ gs → y ≡ x → fitted (plan_with fs y) o ≡ by_frames gs
  same_plan fs gs y e h = rw (e, h)

-- ---- no table is asked for

module _ (x t o : List ℕ) (h : Bool) (v : Reading) (is : v ≡ query_reading h x) where
  pub planned_back : (f : Refusal) → f.text ≡ Query → v ≡ Refused f.number f.line → planned_result (Err f) o ≡ plan x (handed_if h t) o
  unfolding plan
  planned_back f q e = rw q (query_refused (refused_with o) x t h v is f.number f.line e (fitted (plan_of x (handed_if h t)) o))

  module _ (n c : ℕ) (e : v ≡ Accepted n c) (s : List ℕ) (g : Sheet x s) (b : Bool) (q : b ≡ asks_table (frames_in s)) where
    pub planned_whole : b ≡ false → (r : Result) → r ≡ fitted (plan_on s) o → r ≡ plan x (handed_if h t) o
    unfolding plan
    planned_whole z r f = f ∙ sheet_plan x o s g ∙ read_alone (refused_with o) x t h v is (by_frames x o) n c e s g b q z

    pub planned_beside : (z : h ≡ true) → (r : Result) → r ≡ plan x (some t) o → r ≡ plan x (handed_if h t) o
    planned_beside z r f = f ∙ rw z

-- ---- by a table

module _ (x t o : List ℕ) (a : Asks x) (q : asks_table (frames_of x) ≡ true) where
  pub table_back : (f : Refusal) → f.text ≡ Table → reading Table t ≡ Refused f.number f.line → planned_result (Err f) o ≡ plan x (some t) o
  unfolding plan
  table_back f z e = rw z (table_refused (refused_with o) x t a q f.number f.line e (fitted (plan_of x (some t)) o))

  pub sampled_whole : (s i : List ℕ) (e : ℕ) → Both x t s i e → (r : Result) → r ≡ fitted (plan_on (take e s)) o → r ≡ plan x (some t) o
  unfolding plan
  sampled_whole s i e b r f =
      let p = ap (λ (m : Plan). fitted m o) (plan_on_lem (take e s) b.accepted.accepts) in
      let w = same_plan x o (frames_in (take e s)) (frames_of x ++ sampled_from (frames_of t)) b.accepted.accepts.text b.frames b.accepted.text in
      f ∙ p ∙ w ∙ read_both (refused_with o) x t a q (by_frames x o) b.lines b.rows b.is
