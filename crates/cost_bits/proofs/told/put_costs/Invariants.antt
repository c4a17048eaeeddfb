-- `cost_bits::told::put_costs` meets its contract: the places before the one that is next are filled.
use lib.ListN.{take}
use Rattle.cost_bits.proofs.BitLaws.{Filling}
use Rattle.cost_bits.proofs.told.put_costs.Given as goal

abbrev pub invariant-loop-i : goal.invariant-loop-i
invariant-loop-i l = Filling (take l.n l.costs) l.initial.out l.out l.i
