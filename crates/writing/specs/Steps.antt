-- The steps of atoms taken one after another, and how many they are.
use Rattle.std.specs.Prelude.{ℕ, suc, ◌+◌, ◌<◌, ◌≤◌, List, [], ◌∷◌, ◌++◌, map, length, get_or}
use Rattle.frames.specs.Sheet.{frame_at}
use Rattle.records.specs.Atoms.{Operand, local, global, wild, Atom, Plain, Lit, LitBind, Eq, EqGlobal, Pred, Variadic, Step}
use Rattle.records.specs.Bound.{Bound, bound_most}
use Rattle.records.specs.Lowering.{lower}
use Rattle.records.specs.Scheduling.{atom_of}
use Rattle.output.specs.StepFrames.{frame_of}
use Rattle.passes.specs.AtomLines.{bound_behind}
use Rattle.passes.specs.Eager.{sheet_atoms}
use Rattle.output.specs.Written.{PutsFrames}
use Rattle.emitting.specs.Begun.{steps_of}
use Rattle.emitting.specs.Emitting.{Emittable}

-- what the atoms ks become in turn, from what B binds
unfoldable pub steps_along : (ℕ → Atom) → Bound → List ℕ → List Step
steps_along atomAt B [] = []
steps_along atomAt B (k ∷ ks) = steps_of (lower B k (atomAt k)) ++ steps_along atomAt (bound_behind B (lower B k (atomAt k))) ks

-- ---- how many

-- the children that are read: all but wildcards
unfoldable pub read_count : List Operand → ℕ
read_count [] = 0
read_count (local v ∷ cs) = suc (read_count cs)
read_count (global g ∷ cs) = suc (read_count cs)
read_count (wild ∷ cs) = read_count cs

-- a Join, and a step for each such child of a Plain or one for a literal or a collection; one step for the others
abbrev pub step_count : Atom → ℕ
step_count (Plain n o cs) = suc (read_count cs)
step_count (Lit n o x) = 2
step_count (LitBind n o l) = 2
step_count (Eq a b) = 1
step_count (EqGlobal a g) = 1
step_count (Pred g ds) = 1
step_count (Variadic n o cs f) = 2

unfoldable pub count_along : (ℕ → Atom) → List ℕ → ℕ
count_along atomAt [] = 0
count_along atomAt (k ∷ ks) = step_count (atomAt k) + count_along atomAt ks

-- ---- over a text

-- the first `count` of the order O are atoms of the text x, and each atom can be emitted
pub record Ordered (x from : List ℕ) (n : ℕ) (O : List ℕ) (count : ℕ) : Type 0 where
  pub within : count ≤ length O
  pub few : count ≤ bound_most
  pub below : (c : ℕ) → c < count → get_or O c 0 < n
  pub line : (k : ℕ) → k < n → Emittable (frame_at x (get_or from k 0))

-- the lines of their steps are put at `at` into o
pub record PutsSteps (x : List ℕ) (B : Bound) (ks o : List ℕ) (at : ℕ) (p : List ℕ) (r : ℕ) : Type 0 where
  pub puts : PutsFrames o at (map frame_of (steps_along (atom_of (sheet_atoms x)) B ks)) p r
  pub near : r ≤ at + 0x8_0000
