-- Note 2: "Write it as one byte after the node, 00 for false, which the planner always writes, as the Rust does; above 01 is 4. Older plans with the short
-- frame 48 are then 3." Proved from the table by kind, and in Idempotent of `plans`.
use Rattle.std.specs.Prelude.{ℕ, ◌+◌, ◌*◌, ◌<◌, ◌≡◌, false, List, length, get_or}
use Rattle.std.proofs.Common.{arith, ne_eqb, eq-eqb}
use Rattle.std.proofs.lemmas.Bool.{lt-leb}
use Rattle.fair_plans.specs.Kinds.{kinds, kind_at}
use Rattle.fair_plans.specs.Fields.{field_passes, field_fits}
use Rattle.fair_plans.specs.Frames.{frame_length, pass_all}
use Rattle.fair_plans.specs.Faults.{frame_fault}
use Rattle.fair_plans.specs.Text.TheVariants.{Query, Plan}
use Rattle.fair_plans.specs.First.{frames_of}
use Rattle.fair_plans.specs.Reading.{Accepted}
use Rattle.fair_plans.specs.Second.{reading}
use Rattle.fair_plans.specs.Items.{Each}
use Rattle.fair_plans.proofs.PlanRead.{plan_frames_lem}
use Rattle.fair_plans.proofs.Longest.{schedule_plan}
use Rattle.fair_plans.proofs.Idempotent.{schedule_not}
use Rattle.fair_plans.specs.QueryPlans.{atoms_of, count_at}
use Rattle.fair_plans.proofs.QueryPlansLaws.{query_fits}
use Rattle.fair_plans.specs.Terms.{FairPlan, fair_steps}

-- "00 for false, which the planner always writes": in every plan of an accepted query, whatever the costs and samples, the third byte of a frame 48
pub writes_false : (x p : List ℕ) (n c : ℕ) → reading Query x ≡ Accepted n c → FairPlan x p → Each (λ (f : List ℕ). get_or f 0 0 ≡ 0x48 → get_or f 2 0 ≡ 0) (frames_of p)
writes_false x p n c ok f =
    let fit = query_fits x n c ok f.tallied f.rejected f.tallied_few f.rejected_few in
    let whole = schedule_plan (count_at x 1) (count_at x 2) (count_at x 3) f.tallied f.rejected (atoms_of x) fit f.choose f.start f.fair in
    rw (f.text, plan_frames_lem (count_at x 1) (count_at x 2) (count_at x 3) f.tallied f.rejected (fair_steps f) whole)
    ((λ e. absurd (omega arith)), schedule_not (atoms_of x) f.choose f.start f.fair)

-- "above 01 is 4": of a frame 48 that has its length
pub above_one : (k : ℕ) (f : List ℕ) → get_or f 0 0 ≡ 0x48 → length f ≡ frame_length f → 1 < get_or f 2 0 → frame_fault Plan false k f ≡ 4
unfolding frame_fault kind_at kinds pass_all field_passes field_fits
above_one k f is long h = rw (eq-eqb (length f) (frame_length f) long, is, lt-leb (get_or f 2 0) 1 h)

-- "Older plans with the short frame 48 are then 3": kind, node, flag, rest, n and n items, whatever they hold
pub short_frame : (k n : ℕ) (f : List ℕ) → get_or f 0 0 ≡ 0x48 → length f ≡ 5 + 3 * n → frame_fault Plan false k f ≡ 3
unfolding frame_fault kind_at kinds
short_frame k n f is long = rw (is, ne_eqb (length f) (6 + 3 * get_or f 5 0) (λ e. omega arith))
