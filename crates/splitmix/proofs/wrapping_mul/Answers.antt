-- `wrapping_mul` meets its contract: each product of halves fits, and the halves give the product modulo 2^64.
use Rattle.std.proofs.Common.{◌∙◌, arith}
use Rattle.splitmix.proofs.Product.{below, halves}
use Rattle.splitmix.proofs.wrapping_mul.Goals as goal

pub overflow_mul-low : goal.overflow_mul-low
overflow_mul-low c = record { fits = below 32 (omega arith) (omega arith) }

pub overflow_mul-cross : goal.overflow_mul-cross
overflow_mul-cross c = record { fits = below 32 (omega arith) (omega arith) }

pub overflow_mul-cross-2 : goal.overflow_mul-cross-2
overflow_mul-cross-2 c = record { fits = below 32 (omega arith) (omega arith) }

pub returns : goal.returns
returns c = c.wrapping_add_u64.ensures.value ∙ halves c.args.a c.args.b
