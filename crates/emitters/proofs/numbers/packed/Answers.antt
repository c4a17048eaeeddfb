-- `emitters::numbers::packed` meets its contract.
use native.Mathlib.Omega.{arith}
use Rattle.emitters.proofs.EmitterLaws.{packed_is}
use Rattle.emitters.proofs.numbers.packed.Goals as goal

pub returns : goal.returns
returns c = packed_is c.args.atom c.args.site c.args.position _ _ _ (omega arith) c.requires (omega arith) c.from.ensures c.from-2.ensures c.from-3.ensures
