-- `standing::row::put_children` meets its contract.
use native.Mathlib.Omega.{arith}
use Rattle.standing.proofs.FrameLaws.{leading_starts, leading_room, leading_again, leading_ends}
use Rattle.standing.proofs.row.put_children.Goals as goal

pub loop-j-init : goal.loop-j-init
loop-j-init c = leading_starts _ _ _ _ _

pub overflow_mul-j : goal.overflow_mul-j
overflow_mul-j c = omega (arith, c.requires.n_bound, c.loop-j-test.true)

pub overflow_add-j : goal.overflow_add-j
overflow_add-j c = omega (arith, c.requires.n_bound, c.loop-j-test.true)

pub short_at-class-requires : goal.short_at-class-requires
short_at-class-requires c = omega (arith, c.requires.n_bound, c.loop-j-test.true)

pub leader-led-requires : goal.leader-led-requires
leader-led-requires c = c.requires.indexed

pub put_short-to-requires : goal.put_short-to-requires
put_short-to-requires c = leading_room c.loop-j.invariant c.loop-j-test.true c.requires.n_in_bounds

pub loop-j-preserved : goal.loop-j-preserved
loop-j-preserved c = leading_again c.loop-j.invariant c.loop-j-test.true _ _ c.short_at-class.ensures c.leader-led.ensures c.put_short-to.ensures

pub shape_of-out : goal.shape_of-out
shape_of-out c = c.loop-j.invariant.laid.size

pub returns : goal.returns
returns c = leading_ends c.loop-j.invariant c.loop-j-test.false
