-- `sqrt::finite_root` meets its contract: the scaled operand has room, and the parts are the definition's. Assumes nothing.
use Rattle.sqrt.proofs.Laws.{odd_room, scaled_fits, finite}
use Rattle.sqrt.proofs.finite_root.Goals as goal

pub shifted-scaled-requires : goal.shifted-scaled-requires
shifted-scaled-requires c = search odd_room

pub nearest_root-requires : goal.nearest_root-requires
nearest_root-requires c = search scaled_fits

pub returns : goal.returns
returns c = search finite
