-- `sqrt::of_bits` meets its contract: which patterns are a NaN's is one comparison. Assumes nothing.
use Rattle.sqrt.proofs.Floats.{nan_pattern, number_pattern}
use Rattle.sqrt.proofs.of_bits.Goals as goal

pub returns-then-bits-gt-INFINITY : goal.returns-then-bits-gt-INFINITY
returns-then-bits-gt-INFINITY c = search nan_pattern

pub float_from_bits-result : goal.float_from_bits-result
float_from_bits-result c = search number_pattern
