-- `passes::eager::try_at` meets its contract: what each way out does to the state.
use Prim.Native.Nat.{◌<◌}
use native.Mathlib.Omega.{arith}
use lib.ListN.{length}
use Rattle.passes.proofs.EagerLaws.{has_room, tried_used, tried_not_free, tried_waits, tried_takes}
use Rattle.passes.proofs.eager.try_at.Goals as goal
use Rattle.passes.proofs.eager.try_at.Goals.{then-is_set-via-then-is_set, then-is_set-via-else-is_set+then-not-is_free, then-is_set-via-else-is_set+else-not-is_free+then-not-lower_bound}

pub returns-then-is_set : goal.returns-then-is_set
returns-then-is_set c = elim c.then-is_set.branch [
  | then-is_set-via-then-is_set w ↦ rw w.bound-is (search tried_used)
  | then-is_set-via-else-is_set+then-not-is_free w ↦ rw w.bound-is (search tried_not_free)
  | then-is_set-via-else-is_set+else-not-is_free+then-not-lower_bound w ↦ rw w.bound-is (search tried_waits)
]

pub bounds-order-c : goal.bounds-order-c
bounds-order-c c = search has_room

pub overflow_add-result : goal.overflow_add-result
overflow_add-result c = let h : c.args.c < length c.args.order.now = search has_room in omega arith

pub returns : goal.returns
returns c = search (tried_takes, has_room)
