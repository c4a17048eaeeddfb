-- An accepted query x and steps ss for it: its atoms and counts, the text of its plan, and what it is to be read back.
use Rattle.std.specs.Prelude.{ℕ, ◌+◌, ◌≤◌, ◌≡◌, List, map, length, get_or, drop}
use Rattle.reading_facts.specs.Digits.{bytes_of}
use Rattle.reading_facts.specs.First.{frames_of, first_line}
use Rattle.reading_facts.specs.Text.TheVariants.{Plan}
use Rattle.reading_facts.specs.Reading.{Accepted}
use Rattle.reading_facts.specs.Second.{reading}
use Rattle.plans.specs.Atoms.{Atom, Step}
use Rattle.cost.specs.QueryAtoms.{atoms_in}
use Rattle.plans.specs.StepFrames.{frame_of, step_of}
use Rattle.plans.specs.PlanText.{text_length, plan_text, plan_most}

-- its atoms
abbrev pub atoms_of : List ℕ → List Atom
atoms_of x = atoms_in (frames_of x)

-- the header's counts
abbrev pub count_at : List ℕ → ℕ → ℕ
count_at x i = get_or (bytes_of (first_line x)) i 0

-- the text of a plan for it
abbrev pub text_for : List ℕ → ℕ → ℕ → List Step → List ℕ
text_for x tallied rejected ss = plan_text (count_at x 1) (count_at x 2) (count_at x 3) tallied rejected ss

-- the text is accepted by the reading of plans, gives the same steps back, has a line for the header and for each step, and is no longer than the longest
pub record ReadBack (x : List ℕ) (tallied rejected : ℕ) (ss : List Step) : Type 0 where
  pub accepts : reading Plan (text_for x tallied rejected ss) ≡ Accepted (1 + length ss) 0
  pub gives : map step_of (drop 1 (frames_of (text_for x tallied rejected ss))) ≡ ss
  pub long : length (text_for x tallied rejected ss) ≡ 21 + text_length (map frame_of ss)
  pub short : length (text_for x tallied rejected ss) ≤ plan_most
  pub few : length ss ≤ 1088
