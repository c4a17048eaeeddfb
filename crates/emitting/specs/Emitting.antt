-- The steps of one atom, written.
use Rattle.std.specs.Prelude.{ℕ, ◌+◌, ◌<◌, ◌≤◌, List, map}
use Rattle.binding.specs.Kinds.{items_of}
use Rattle.output.specs.Frames.{kind_of}
use Rattle.output.specs.Atoms.{Atom}
use Rattle.binding.specs.Bound.{Bound}
use Rattle.binding.specs.Lowering.{lower}
use Rattle.output.specs.StepFrames.{frame_of}
use Rattle.lowering.specs.AtomLines.{AtomLine}
use Rattle.output.specs.Written.{PutsFrames}
use Rattle.step_bytes.specs.Begun.{steps_of}

-- the lines of the steps of atom a, number k, where B is bound, are put at `at` into o
pub record Emits (B : Bound) (k : ℕ) (a : Atom) (o : List ℕ) (at : ℕ) (p : List ℕ) (r : ℕ) : Type 0 where
  pub puts : PutsFrames o at (map frame_of (steps_of (lower B k a))) p r
  pub near : r ≤ at + 8192

-- an atom's line whose lookups, the ByOp among them, are counted in one byte
pub record Emittable (f : List ℕ) : Type 0 where
  pub atom : AtomLine f
  pub few : items_of (kind_of f) f < 255
