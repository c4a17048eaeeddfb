-- `pick` meets its contract: a remainder is below its divisor.
use native.Mathlib.Omega.{arith}
use native.Mathlib.Nat.{mod-lt}
use Rattle.measure.proofs.pick.Goals as goal

pub offset_bounds-draws-number : goal.offset_bounds-draws-number
offset_bounds-draws-number c = omega (arith, mod-lt c.args.number c.requires)

pub bounds-draws-number : goal.bounds-draws-number
bounds-draws-number c = omega (arith, mod-lt c.args.number c.requires)
