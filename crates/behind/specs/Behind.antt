-- The frames of a text, by the text that their kinds belong to.
use Rattle.std.specs.Prelude.{ℕ, ◌≡◌, List, get_or}
use Rattle.reading_facts.specs.Kinds.{kind_at}
use Rattle.lowering.specs.Items.{Each}

-- each of the frames is of a kind of the text t
abbrev pub FramesOf : ℕ → List (List ℕ) → Type 0
FramesOf t fs = Each (λ f. (kind_at (get_or f 0 0)).text ≡ t) fs
