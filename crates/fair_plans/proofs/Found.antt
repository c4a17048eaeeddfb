-- The run of a plan of an accepted query finds the matches, whatever atom it names and where it names none: `finds`. Proved from the model's guarantee, by
-- the plan as the runner reads it.
use Prim.Native.Nat.{ℕ, ◌<◌, ◌≤◌}
use mathlib.Core.Path.{◌≡◌, refl, sym, ◌∙◌, ap, subst}
use mathlib.Core.Logic.{◌≢◌}
use mathlib.Core.Bool.{true}
use mathlib.Core.List.Memᴰ
use mathlib.Core.List.{List, [], map, flat_map, Memᴰ}
use native.Mathlib.Omega.{arith}
use lib.ListN.{length}
use Rattle.running.specs.Kinds.{plan, table}
use Rattle.running.specs.First.{frames_of}
use Rattle.running.specs.Text.TheVariants.{Query, Plan, Table}
use Rattle.running.specs.Reading.{Reading}
use Rattle.running.specs.Reading.{Accepted, Refused}
use Rattle.running.specs.Second.{reading}
use Rattle.running.specs.Lists.{Pairs}
use Rattle.running.proofs.ListsLaws.{pairs_map, pairs_of_map}
use Rattle.running.specs.Atoms.{Step}
use Rattle.running.specs.Bound.{has, blank}
use Rattle.running.specs.Scheduling.{atom_of, schedule}
use Rattle.running.specs.Running.{Mode, Event, runs, trace, founds, attempts}
use Rattle.running.specs.Matching.{InShapes, GlobalsSet, Line, Counts, line, Given, Exact}
use Rattle.running.proofs.Limited.{ran}
use Rattle.running.proofs.Carried.{EnvHas, runs_have}
use Rattle.running.proofs.Lines.{number_in}
use Rattle.running.proofs.Unlowered.{run_all_lowered}
use Rattle.running.proofs.Guarantee.{made, all_of, schedule_runnable, schedule_exact, schedule_guaranteed}
use Rattle.fitting.specs.QueryPlans.{atoms_of}
use Rattle.running.specs.Tables.{table_of, line_counts, plan_steps}
use Rattle.running.specs.Validation.{Verdict, Passed, Invalid, and_then, of_reading, shapes_from, steps_pass, validation, named_joins, validation_with}
use Rattle.running.specs.Run.{unbound, events, line_text, ran as result, run}
use Rattle.running.proofs.RunLaws.{unbound_blank, unbound_picked}
use Rattle.running.proofs.TableRows.{table_has}
use Rattle.running.proofs.LineTexts.{LineSized, line_one, line_sized}
use Rattle.fair_plans.specs.Terms.{FairPlan, fair_steps, line_of, Runs, all_lines, Enough, Finds}
use Rattle.fair_plans.proofs.PlanBack.{plan_steps_lem, plan_counts_lem}
use Rattle.fair_plans.proofs.Below.{query_given}
use Rattle.fair_plans.proofs.Globals.{plan_set}
use Rattle.fair_plans.proofs.Unrefused.{steps_given}

-- ---- texts that are not refused

record Read (p t : List ℕ) : Type 0 where
  pub lines : ℕ
  pub rows : ℕ
  pub table : reading Table t ≡ Accepted lines rows
  pub steps : steps_pass (table_of t) (plan_steps p) ≡ Passed

texts_read : (p t : List ℕ) → validation p t ≡ Passed → Read p t
unfolding validation
texts_read p t h = by (of_reading plan (reading Plan p)) (reading Table t) (shapes_from [] 0 (frames_of t)) (steps_pass (table_of t) (plan_steps p)) refl refl h
  where
    by : (v : Verdict) (a : Reading) (w u : Verdict) → reading Table t ≡ a → steps_pass (table_of t) (plan_steps p) ≡ u → and_then v (and_then (of_reading table a) (and_then w u)) ≡ Passed → Read p t
    by Passed (Accepted n c) Passed u e s h = record { lines = n; rows = c; table = e; steps = s ∙ h }
    by Passed (Accepted n c) (Invalid k y l) u e s h = let z : ◌≡◌ {A = ℕ} 0 1 = cc in absurd (omega arith)
    by Passed (Refused k l) w u e s h = let z : ◌≡◌ {A = ℕ} 0 1 = cc in absurd (omega arith)
    by (Invalid k y l) a w u e s h = let z : ◌≡◌ {A = ℕ} 0 1 = cc in absurd (omega arith)

-- a run that names an atom passes the tests of one that names none
pub tests_passed : (p t : List ℕ) (md : Mode) → validation_with p t md ≡ Passed → validation p t ≡ Passed
unfolding validation_with
tests_passed p t md h = by (validation p t) h
  where
    by : (v : Verdict) → and_then v (named_joins md (plan_steps p)) ≡ Passed → v ≡ Passed
    by Passed h = refl
    by (Invalid k y l) h = h

-- ---- a plan text p that reads as the steps ss, with lines of these counts; md: the atom that the run names, or none

module _ (p t : List ℕ) (md : Mode) (n : Counts) (ss : List Step) (steps : plan_steps p ≡ ss) (counts : line_counts p ≡ n) where
  pub events_are : events p t md ≡ trace (table_of t) md ss unbound
  unfolding events
  events_are = rw steps

  lines_are : all_lines p t md ≡ map (line n) (founds (trace (table_of t) md ss unbound))
  lines_are = ap (λ (es : List Event). map (line (line_counts p)) (founds es)) events_are ∙ ap (λ (c : Counts). map (line c) (founds (trace (table_of t) md ss unbound))) counts

  run_is : validation p t ≡ Passed → named_joins md (plan_steps p) ≡ Passed → (A : ℕ) (o : List ℕ) → run p t md A o ≡ result (ran line_text n (table_of t) md ss unbound A o)
  unfolding run validation_with
  run_is h k A o = rw (h, k, events_are) (ap (λ (c : Counts). result (ran line_text c (table_of t) md ss unbound A o)) counts)

-- ---- every atom of a query that runs is lowered

pub all : (x p : List ℕ) (f : FairPlan x p) → Runs x → (i : ℕ) → i < length (atoms_of x) → has (schedule (atoms_of x) f.choose f.start).used i ≡ true
all x p f q = run_all_lowered (atoms_of x) f.choose f.start f.fair q.kinds q.lowered

-- ---- an accepted query that runs, a plan of it by a fair choice, a table in shape, both not refused

module _ (x p t : List ℕ) (n c : ℕ) (ok : reading Query x ≡ Accepted n c) (f : FairPlan x p) (q : Runs x) (passed : validation p t ≡ Passed) (sh : InShapes (table_of t) (atoms_of x)) where
  read : Read p t
  read = texts_read p t passed

  globals : (k : ℕ) → k < length (atoms_of x) → GlobalsSet (table_of t) (atom_of (atoms_of x) k)
  globals k h =
      let o = all_of (atoms_of x) f.choose f.start f.fair (all x p f q) in
      plan_set (table_of t) (made (atoms_of x) f.choose f.start f.fair).lowered (λ j m. q.kinds (atom_of (atoms_of x) j) (number_in (atoms_of x) j (o.only j m)))
      (steps_given (table_of t) (fair_steps f) blank blank _ 1 (ap (steps_pass (table_of t)) (sym (plan_steps_lem x n c ok p f)) ∙ read.steps)) k (o.every k h)

  pub given : Given (table_of t) (line_of x) (atoms_of x)
  given = query_given x t n c read.lines read.rows ok read.table q.kinds sh globals

  -- md: the atom that the run names, or none
  module _ (md : Mode) where
    pub lines_exact : Exact (table_of t) md (line_of x) (atoms_of x) (map (line (line_of x)) (runs (table_of t) md (fair_steps f) unbound))
    lines_exact = schedule_exact (atoms_of x) f.choose f.start f.fair (all x p f q) (table_of t) (line_of x) given unbound unbound_blank md

    -- a line that is found has classes of two bytes and values of four
    found_sized : (y : Line) → Memᴰ y (map (line (line_of x)) (runs (table_of t) md (fair_steps f) unbound)) → LineSized y
    found_sized y m =
        let r = Memᴰ.of_map (line (line_of x)) (runs (table_of t) md (fair_steps f) unbound) m in
        let w = table_has t read.lines read.rows read.table in
        subst LineSized r.2 (line_sized (line_of x) refl r.0
        (runs_have _ _ (table_of t) md w (fair_steps f) (schedule_runnable (atoms_of x) f.choose f.start f.fair q.kinds) unbound start r.0 r.1))
      where
        start : EnvHas (λ c. c < 0x1_0000) (λ v. v < 0x1_0000_0000) unbound
        start =
            let w = table_has t read.lines read.rows read.table in
            record {
              classes = λ v. rw (unbound_blank.classes v) w.blank;
              rows = λ v. rw (unbound_picked v) w.none_picked;
              literals = λ l. rw (unbound_blank.literals l) tt;
            }

    -- no two lines that are found have the same text
    texts_apart : (ls : List Line) → Exact (table_of t) md (line_of x) (atoms_of x) ls → Pairs ◌≢◌ (map line_text ls)
    texts_apart ls g = pairs_of_map line_text ls (pairs_map ls (λ y z i j ne s. ne (line_one y z (sized y i) (sized z j)
        ((g.sound y i).width ∙ sym (g.sound z j).width) ((g.sound y i).depth ∙ sym (g.sound z j).depth) s)) g.once)
      where
        sized : (y : Line) → Memᴰ y ls → LineSized y
        sized y i = found_sized y (lines_exact.complete y (g.sound y i))

    pub finds : named_joins md (plan_steps p) ≡ Passed → (A : ℕ) (o : List ℕ) → Enough p t md A o → Finds x p t md o (run p t md A o)
    finds named A o e =
        let es = events_are p t md (line_of x) (fair_steps f) (plan_steps_lem x n c ok p f) (plan_counts_lem x n c ok p f) in
        let ls = lines_are p t md (line_of x) (fair_steps f) (plan_steps_lem x n c ok p f) (plan_counts_lem x n c ok p f) in
        let is = run_is p t md (line_of x) (fair_steps f) (plan_steps_lem x n c ok p f) (plan_counts_lem x n c ok p f) passed named A o in
        let h = subst (λ k. attempts k ≤ A) es e.tries in
        let k = subst (λ l. length (flat_map line_text l) ≤ length o) ls e.room in
        let g = schedule_guaranteed (atoms_of x) f.choose f.start f.fair (all x p f q) (table_of t) (line_of x) given unbound unbound_blank md line_text A o h k in
        record {
          lines = g.lines;
          matches_are = g.matches_are;
          apart = texts_apart g.lines g.matches_are;
          outcome = rw (is, g.status, g.tried, g.matches, g.written, es);
          output = rw is g.output;
        }
