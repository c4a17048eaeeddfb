-- `frames::frame::items_pass` meets its contract.
use Rattle.frames.proofs.FrameLaws.{passing_starts, items_again, items_fail, items_end, items_free}
use native.Mathlib.Omega.{arith}
use Rattle.frames.proofs.frame.items_pass.Goals as goal

pub returns-then-item-lt16 : goal.returns-then-item-lt16
returns-then-item-lt16 g c = items_free _ (g.met.T.FieldTest.free c.args.t) c.args.frame.now _ c.requires.item_value c.if-item-lt16.true

pub overflow_sub-from : goal.overflow_sub-from
overflow_sub-from g c = omega (arith, c.requires.from_value)

pub loop-item-init : goal.loop-item-init
loop-item-init g c = passing_starts _ _ _ _ c.requires.from_value

pub returns-then-not-passes : goal.returns-then-not-passes
returns-then-not-passes g c = search items_fail

pub loop-item-preserved : goal.loop-item-preserved
loop-item-preserved g c = search items_again

pub returns : goal.returns
returns g c = search items_end
