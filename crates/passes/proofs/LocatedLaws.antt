-- An atom of a sheet by its number: the place of its frame, and what is known of it. Proved from the places of all.
use Prim.Native.Nat.{ℕ, ◌+◌, ◌<◌}
use mathlib.Core.Path.{◌≡◌}
use mathlib.Core.List.{List, Memᴰ}
use native.Mathlib.Omega.{arith}
use lib.ListN.{length, get_or}
use Rattle.lowering.specs.Sheet.{frame_at}
use Rattle.lowering.specs.Bound.{bound_most}
use Rattle.lowering.proofs.TabulateLaws.{mem_tabulate}
use Rattle.lowering.specs.Scheduling.{numbers}
use Rattle.lowering.specs.AtomLines.{AtomLine}
use Rattle.passes.specs.Eager.{sheet_atoms, Lined, Located}

module _ (x from : List ℕ) (n : ℕ) (z : Located x from n) (i : ℕ) (h : i < n) where
  pub place_sized : i + bound_most < length from
  place_sized = omega (arith, z.size)

  pub place_within : Lined x from i
  place_within = z.within i h

  pub number_small : i < 256
  number_small = omega (arith, z.few)

  pub number_among : Memᴰ i (numbers (sheet_atoms x))
  number_among = mem_tabulate (length (sheet_atoms x)) (λ k. k) i (rw (← z.count) h)

  pub line_ready : (l : List ℕ) → l ≡ frame_at x (get_or from i 0) → AtomLine l
  line_ready l line = rw line (z.line i h)
