-- The plan of document 01's example as frames and text. Computed.
use Rattle.std.specs.Prelude.{◌≡◌, refl, ℕ}
use mathlib.Core.List.{List, [], ◌∷◌, flat_map}
use Rattle.records.specs.Atoms.{ByOp, ByRepr, Step, Join, ExtractChild}
use Rattle.plans.specs.StepFrames.{frame_of}
use Rattle.plans.specs.PlanText.{text_of, plan_text}

-- the example's steps, and the lines that the plan program prints: 3f040000000500000000 and so on
unfoldable pub worked : List Step
worked = Join 0 0 (ByOp 1 ∷ []) ∷ ExtractChild 1 0 0 ∷ ExtractChild 2 0 1 ∷ Join 2 1 (ByRepr 2 ∷ ByOp 2 ∷ []) ∷ ExtractChild 3 2 0 ∷ []

unfoldable pub worked_lines : List (List ℕ)
worked_lines =
    (0x3f ∷ 0x04 ∷ 0x00 ∷ 0x00 ∷ 0x00 ∷ 0x05 ∷ 0x00 ∷ 0x00 ∷ 0x00 ∷ 0x00 ∷ [])
    ∷ (0x40 ∷ 0x00 ∷ 0x00 ∷ 0x01 ∷ 0x00 ∷ 0x01 ∷ 0x00 ∷ 0x00 ∷ [])
    ∷ (0x41 ∷ 0x01 ∷ 0x00 ∷ 0x00 ∷ [])
    ∷ (0x41 ∷ 0x02 ∷ 0x00 ∷ 0x01 ∷ [])
    ∷ (0x40 ∷ 0x02 ∷ 0x01 ∷ 0x02 ∷ 0x02 ∷ 0x02 ∷ 0x00 ∷ 0x00 ∷ 0x00 ∷ 0x02 ∷ 0x00 ∷ 0x00 ∷ [])
    ∷ (0x41 ∷ 0x03 ∷ 0x02 ∷ 0x00 ∷ [])
    ∷ []

pub the_plan : plan_text 4 0 0 0 0 worked ≡ text_of worked_lines
unfolding worked worked_lines plan_text text_of frame_of flat_map
the_plan = refl
