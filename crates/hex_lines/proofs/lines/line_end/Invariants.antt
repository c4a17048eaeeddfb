-- `hex_lines::lines::line_end` meets its contract.
use Prim.Native.Nat.{◌≤◌}
use mathlib.Core.Path.{◌≡◌}
use lib.ListN.{length, drop}
use Rattle.hex_lines.specs.Lines.{end_of}
use Rattle.hex_lines.proofs.lines.line_end.Given as goal

abbrev pub invariant-loop-i : goal.invariant-loop-i
invariant-loop-i l = (l.i ≤ length l.text) × (end_of l.at (drop l.at l.text) ≡ end_of l.i (drop l.i l.text))
