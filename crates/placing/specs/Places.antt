-- Where the frames of a sheet's atoms begin.
use Rattle.std.specs.Prelude.{ℕ, ◌+◌, ◌<◌, ◌≤◌, ◌≡◌, List, [], length, get_or, set}
use Rattle.hexadecimal.specs.Choose.{pick}
use Rattle.frames.specs.Sheet.{frame_at, frames_in}
use Rattle.passes.specs.Faults.{is_atom}
use Rattle.passes.specs.Bound.{bound_most}
use Rattle.passes.specs.QueryAtoms.{atom_frames}
use Rattle.passes.specs.Eager.{Lined}

-- "Atoms are numbered from 0 by arrival": the first n of `from` are where their frames begin
pub record Places (x from : List ℕ) (n : ℕ) : Type 0 where
  pub count : n ≡ length (atom_frames (frames_in x))
  pub size : n + bound_most ≤ length from
  pub within : (k : ℕ) → k < n → Lined x from k
  pub is : (k : ℕ) → k < n → (frame_at x (get_or from k 0)) ≡ get_or (atom_frames (frames_in x)) k []

-- the n-th place is `at`, and the n-th end is `end`, where the frame f is an atom's; else nothing changes
pub record Noted (f : List ℕ) (at end : ℕ) (from : List ℕ) (n : ℕ) (into : List ℕ) (m : ℕ) : Type 0 where
  pub places : into ≡ pick (is_atom (get_or f 0 0)) (set (set from n at) (n + bound_most) end) from
  pub count : m ≡ pick (is_atom (get_or f 0 0)) (n + 1) n
