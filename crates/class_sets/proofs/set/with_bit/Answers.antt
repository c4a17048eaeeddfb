-- `class_sets::set::with_bit` meets its contract.
use native.Mathlib.Omega.{arith}
use Rattle.class_sets.proofs.SetLaws.{bit_there, bit_fits, bit_new}
use Rattle.class_sets.proofs.set.with_bit.Goals as goal

pub returns-then-has_bit : goal.returns-then-has_bit
returns-then-has_bit c = search bit_there

pub overflow_add-result : goal.overflow_add-result
overflow_add-result c = record { fits = bit_fits _ _ c.requires _ c.has_bit.ensures c.if-has_bit.false (omega (arith, c.ranges)) }

pub returns-else-has_bit : goal.returns-else-has_bit
returns-else-has_bit c = bit_new _ _ c.requires _ c.has_bit.ensures c.if-has_bit.false
