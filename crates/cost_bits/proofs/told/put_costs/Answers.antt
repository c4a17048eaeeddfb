-- `cost_bits::told::put_costs` meets its contract: the places before the one that is next are filled.
use native.Mathlib.Omega.{arith}
use Rattle.cost_bits.proofs.BitLaws.{filling_none, filling_again, filled}
use Rattle.cost_bits.proofs.told.put_costs.Goals as goal

pub loop-i-init : goal.loop-i-init
loop-i-init c = filling_none _ _

pub loop-i-preserved : goal.loop-i-preserved
loop-i-preserved c = filling_again _ _ _ _ c.loop-i.invariant (omega (arith, c.loop-i.invariant.size)) _ c.bits_at.ensures

pub shape_of-out : goal.shape_of-out
shape_of-out c = c.loop-i.invariant.size

pub returns : goal.returns
returns c = filled _ _ _ _ c.loop-i.invariant (omega (arith, c.loop-i.invariant.size))
