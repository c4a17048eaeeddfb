-- `frames::frame::frame_length` meets its contract.
use native.Mathlib.Omega.{arith}
use Rattle.frames.proofs.FrameLaws.{product_small, lengths_here, length_is}
use Rattle.frames.proofs.frame.frame_length.Goals as goal

pub items_by-n-requires : goal.items_by-n-requires
items_by-n-requires c = search lengths_here

pub overflow_mul-result : goal.overflow_mul-result
overflow_mul-result c = omega (arith, product_small c.from-2.result c.items_by-n.result (omega arith) c.items_by-n.ensures.1)

pub overflow_add-result : goal.overflow_add-result
overflow_add-result c = omega (arith, product_small c.from-2.result c.items_by-n.result (omega arith) c.items_by-n.ensures.1)

pub returns : goal.returns
returns c = (search (length_is, lengths_here), omega (arith, product_small c.from-2.result c.items_by-n.result (omega arith) c.items_by-n.ensures.1))
