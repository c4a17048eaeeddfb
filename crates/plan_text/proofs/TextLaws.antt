-- The text of a plan, in the order of its atoms. Proved from the writing of its header and steps.
use Prim.Native.Nat.{ℕ, ◌+◌, ◌<◌}
use mathlib.Core.Path.{◌≡◌}
use mathlib.Core.Bool.{false}
use mathlib.Core.List.{List, [], ◌∷◌, map}
use native.Mathlib.Omega.{arith}
use lib.ListN.{replicate}
use Rattle.frame_tests.specs.declared.tests.Text.TheVariants.{Query}
use Rattle.second_reading.specs.Second.{counts_in}
use Rattle.writing.specs.Bound.{blank}
use Rattle.writing.specs.Scheduling.{atom_of}
use Rattle.writing.specs.StepFrames.{frame_of, header_of}
use Rattle.writing.specs.PlanText.{text_length}
use Rattle.writing.specs.Eager.{sheet_atoms}
use Rattle.writing.specs.Steps.{steps_along, PutsSteps}
use Rattle.writing.specs.Written.{PutsFrames}
use Rattle.writing.proofs.PutLaws.{frames_then}

pub size_is : (x ks o p : List ℕ) (r : ℕ) → PutsSteps x (replicate 64 false) ks o 21 p r → r ≡ 21 + text_length (map frame_of (steps_along (atom_of (sheet_atoms x)) blank ks))
unfolding blank
size_is x ks o p r s = s.puts.next

pub plan_is : (x ks : List ℕ) (steps tallied rejected v g l a b c at r : ℕ) (o p q : List ℕ) → v ≡ (counts_in Query x 0).variables → g ≡ (counts_in Query x 0).globals → l ≡ (counts_in Query x 0).literals → a ≡ steps → b ≡ tallied → c ≡ rejected
    → PutsFrames o 0 (header_of v g l a b c ∷ []) p at → PutsSteps x (replicate 64 false) ks p at q r
    → PutsFrames o 0 (header_of (counts_in Query x 0).variables (counts_in Query x 0).globals (counts_in Query x 0).literals steps tallied rejected ∷ map frame_of (steps_along (atom_of (sheet_atoms x)) blank ks)) q r
unfolding blank
plan_is x ks steps tallied rejected v g l a b c at r o p q hv hg hl ha hb hc u w = rw (← hv, ← hg, ← hl, ← ha, ← hb, ← hc) (frames_then (header_of v g l a b c ∷ []) (map frame_of (steps_along (atom_of (sheet_atoms x)) blank ks)) u w.puts)

pub header_near : (v g l a b c at : ℕ) (o p : List ℕ) → PutsFrames o 0 (header_of v g l a b c ∷ []) p at → at < 4096
unfolding text_length
header_near v g l a b c at o p u = omega (arith, u.next)
