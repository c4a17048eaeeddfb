-- What holds of the plan of every accepted query, whatever costs, fan-outs, settings and samples. Proved from the choice's fairness.
use Rattle.std.specs.Prelude.{ℕ, ◌≡◌, refl, true, List, []}
use Rattle.std.proofs.Math.Option.{Option}
use Rattle.std.proofs.Common.{arith}
use Rattle.plan_text.specs.First.{frames_of}
use Rattle.plan_text.specs.Text.TheVariants.{Query}
use Rattle.plan_text.specs.Reading.{Accepted}
use Rattle.plan_text.specs.Second.{reading}
use Rattle.plan_text.specs.ModelReading.{bound_first}
use Rattle.plan_text.proofs.Guarantee.{schedule_bound_first}
use Rattle.plan_text.specs.QueryAtoms.{atoms_in}
use Rattle.plan_text.specs.Choice.{fresh, choose, planned, remembered}
use Rattle.plan_text.proofs.ChoiceLaws.{choose_fair}
use Rattle.gathering.specs.QueryPlans.{ReadBack}
use Rattle.gathering.proofs.QueryPlansLaws.{plan_read_back}
use Rattle.fitting.specs.Planner.{given, steps_of, tallied_of, rejected_of}
use Rattle.gathering.proofs.Accepted.{few_keys}

-- "no step of a plan reads a variable that no earlier step has bound", all 14 kinds
pub bound_before_read : (x : List ℕ) (t : Option (List ℕ)) → bound_first [] [] (steps_of x t) ≡ true
unfolding steps_of planned
bound_before_read x t =
    schedule_bound_first (atoms_in (frames_of x)) (choose (given x t) (atoms_in (frames_of x))) fresh (choose_fair (given x t) (atoms_in (frames_of x))) [] [] (λ v. refl)

-- the plan as written is accepted, read back to the same steps, and at most 20,565 bytes long, whatever frames are given beside the atoms
pub with_read_back : (fs : List (List ℕ)) (x : List ℕ) (n c : ℕ) → reading Query x ≡ Accepted n c
    → ReadBack x (remembered fs (atoms_in (frames_of x))).tally.tallied (remembered fs (atoms_in (frames_of x))).tally.rejected (planned fs (atoms_in (frames_of x))).steps
unfolding planned
with_read_back fs x n c ok =
    let k = few_keys x n c ok fs in
    plan_read_back x n c ok (choose fs (atoms_in (frames_of x))) fresh (choose_fair fs (atoms_in (frames_of x))) (remembered fs (atoms_in (frames_of x))).tally.tallied (remembered fs (atoms_in (frames_of x))).tally.rejected (omega (arith, k.tallied_few)) (omega (arith, k.rejected_few))

-- .. so with the table that is handed in
pub read_back : (x : List ℕ) (t : Option (List ℕ)) (n c : ℕ) → reading Query x ≡ Accepted n c → ReadBack x (tallied_of x t) (rejected_of x t) (steps_of x t)
unfolding steps_of
read_back x t = with_read_back (given x t) x
