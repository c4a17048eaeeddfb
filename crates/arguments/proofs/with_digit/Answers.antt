-- `arguments::with_digit` meets its contract: what fits is no sum that wraps.
use native.Mathlib.Omega.{arith}
use Rattle.arguments.proofs.Laws.{fit_low, fit_small}
use Rattle.arguments.proofs.with_digit.Goals as goal

pub overflow_mul-result : goal.overflow_mul-result
overflow_mul-result c = record { fits = omega (arith, fit_small c.args.value c.args.b c.requires) }

pub overflow_sub-b : goal.overflow_sub-b
overflow_sub-b c = omega (arith, fit_low c.args.value c.args.b c.requires)

pub overflow_add-result : goal.overflow_add-result
overflow_add-result c = record { fits = omega (arith, fit_small c.args.value c.args.b c.requires) }
