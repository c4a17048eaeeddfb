-- Text put into a lent output: each byte where there is room for it, and always the next place.
use Rattle.std.specs.Prelude.{ℕ, ◌+◌, ◌*◌, ◌≤◌, ◌≡◌, List, [], ◌∷◌, length, take}
use Rattle.std.proofs.lemmas.List.Edits.{sets}
use Rattle.hexadecimal.specs.Digits.{digits_of}
use Rattle.kinds.specs.Kinds.{fixed_length}
use Rattle.frames.specs.Frames.{kind_of}
use Rattle.plans.specs.PlanText.{text_of, text_length}
use Rattle.plans.specs.StepFrames.{frame_of}
use Rattle.plans.specs.Atoms.{Step}

-- the fixed part that the bytes b begin with, by the table of kinds
abbrev pub fixed_in : List ℕ → List ℕ
fixed_in b = take (fixed_length (kind_of b)) b

-- the output o with the text x from `at` on, as far as there is room
unfoldable pub written : List ℕ → ℕ → List ℕ → List ℕ
written o at x = sets o at x

-- the text x is put at `at` into o: p is the output behind it, and r the next place
pub record Puts (o : List ℕ) (at : ℕ) (x p : List ℕ) (r : ℕ) : Type 0 where
  pub is : p ≡ written o at x
  pub next : r ≡ at + length x

-- so are the digits of the bytes f
pub record PutsBytes (o : List ℕ) (at : ℕ) (f p : List ℕ) (r : ℕ) : Type 0 where
  pub is : p ≡ written o at (digits_of f)
  pub next : r ≡ at + 2 * length f

-- and the text of the frames fs
pub record PutsFrames (o : List ℕ) (at : ℕ) (fs : List (List ℕ)) (p : List ℕ) (r : ℕ) : Type 0 where
  pub is : p ≡ written o at (text_of fs)
  pub next : r ≡ at + text_length fs

-- and the line of one step, of which there are few bytes
pub record PutsStep (o : List ℕ) (at : ℕ) (s : Step) (p : List ℕ) (r : ℕ) : Type 0 where
  pub puts : PutsFrames o at (frame_of s ∷ []) p r
  pub near : r ≤ at + 4096
