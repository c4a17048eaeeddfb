-- `lowering::atom::is_free` meets its contract: by the kind.
use native.Mathlib.Omega.{arith}
use Rattle.lowering.proofs.AtomLaws.{free_pred, free_node, free_eq, free_last}
use Rattle.lowering.proofs.atom.is_free.Goals as goal

pub returns-in-0-to-3 : goal.returns-in-0-to-3
returns-in-0-to-3 c = search (free_node, arith)

pub returns-in-4 : goal.returns-in-4
returns-in-4 c = search (free_eq, arith)

pub returns-in-6 : goal.returns-in-6
returns-in-6 c = search free_pred

pub returns-in_default : goal.returns-in_default
returns-in_default c = search (free_last, arith)
