-- Steps held in an array: their bytes come first in it, as many as the table of kinds has for their kind.
use Rattle.std.specs.Prelude.{ℕ, ◌≤◌, ◌≡◌, List, [], ◌∷◌, ◌++◌, map, length, get_or, eqb, MatchOption, Option as Maybe}
use Rattle.std.proofs.Math.Option.{Option, none, some}
use Rattle.hexadecimal.specs.Choose.{pick}
use Rattle.output.specs.Fields.{width}
use Rattle.binding.specs.Kinds.{fixed_length, items_of}
use Rattle.output.specs.Frames.{kind_of}
use Rattle.output.specs.Atoms.{Atom, Plain, Lit, LitBind, Eq, EqGlobal, Pred, Variadic, Step, Expand, ExtractLitVal, CheckLit}
use Rattle.binding.specs.Lowering.{Emitted, expansion_of}
use Rattle.binding.specs.QueryAtoms.{atom_of_frame}
use Rattle.output.specs.StepFrames.{frame_of}
use Rattle.output.specs.Written.{fixed_in}
use Rattle.step_bytes.specs.Pieces.{items_bytes}

-- the few bytes b begin with a frame, the only one of fs
pub record Begins (b : List ℕ) (fs : List (List ℕ)) : Type 0 where
  pub fits : fixed_length (kind_of b) ≤ length b
  pub few : length b ≤ 16
  pub is : fixed_in b ∷ [] ≡ fs

-- no step has this kind
abbrev pub no_step : ℕ
no_step = 0xff

-- the frame that the bytes b begin with, none where they begin with no step's kind
abbrev pub begun : List ℕ → List (List ℕ)
begun b = pick (eqb (get_or b 0 0) no_step) [] (fixed_in b ∷ [])

-- the few bytes b are those of the steps ss, of which there is one at most
pub record Becomes (b : List ℕ) (ss : List Step) : Type 0 where
  pub fits : fixed_length (kind_of b) ≤ length b
  pub few : length b ≤ 16
  pub is : begun b ≡ map frame_of ss

-- the bytes, where there are any, are those of the only step of ss; where there are none, ss has no step
abbrev pub MayBecome : Maybe (List ℕ) → List Step → Type 0
MayBecome r ss = MatchOption r (map frame_of ss ≡ []) (λ b. Begins b (map frame_of ss))

-- the steps that an atom became: none where it waits
abbrev pub steps_of : Option Emitted → List Step
steps_of none = []
steps_of (some l) = l.steps

-- the step behind the Join of a literal or a collection
abbrev pub behind_of : Atom → List Step
behind_of (Plain n o cs) = []
behind_of (Lit n o x) = CheckLit n x ∷ []
behind_of (LitBind n o l) = ExtractLitVal n l ∷ []
behind_of (Eq a b) = []
behind_of (EqGlobal a g) = []
behind_of (Pred g ds) = []
behind_of (Variadic n o cs f) = Expand n cs (expansion_of f) ∷ []

-- the fixed part that the bytes b begin with, and behind it the items of the collection f, as wide as that step's: the step behind its Join
pub record Opens (f b : List ℕ) : Type 0 where
  pub fits : fixed_length (kind_of b) ≤ length b
  pub few : length b ≤ 16
  pub narrow : width (kind_of b).item ≤ 3
  pub is : (fixed_in b ++ items_bytes (width (kind_of b).item) f (fixed_length (kind_of f)) (items_of (kind_of f) f)) ∷ [] ≡ map frame_of (behind_of (atom_of_frame f))
