-- `sqrt::bits_of` meets its contract: only NaN differs from itself. Assumes nothing.
use Rattle.sqrt.proofs.Floats.{bits_not_a_number, a_number}
use Rattle.sqrt.proofs.bits_of.Goals as goal

pub returns-then-x : goal.returns-then-x
returns-then-x c = search bits_not_a_number

pub float_to_bits-result : goal.float_to_bits-result
float_to_bits-result c = search a_number
