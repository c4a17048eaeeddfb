-- `sqrt::missing` meets its contract: what the leading zeros say of a number's length. Assumes nothing.
use native.Mathlib.Omega.{arith}
use lib.Count.{leading_le}
use Rattle.sqrt.proofs.Laws.{enough_zeros, lift}
use Rattle.sqrt.proofs.missing.Goals as goal

pub overflow_cast-result : goal.overflow_cast-result
overflow_cast-result c = omega (arith, leading_le 64 c.args.m)

pub overflow_sub-result : goal.overflow_sub-result
overflow_sub-result c = omega (arith, enough_zeros c.args.m c.requires.0 c.requires.1)

pub returns : goal.returns
returns c = search lift
