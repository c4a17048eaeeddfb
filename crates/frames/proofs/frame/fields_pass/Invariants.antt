-- `frames::frame::fields_pass` meets its contract.
use Rattle.frames.proofs.FrameLaws.{Testing}
use Rattle.frames.proofs.frame.fields_pass.Given as goal

abbrev pub invariant-loop-left : goal.invariant-loop-left
invariant-loop-left g l = Testing (g.T.FieldTest.says l.t) l.frame l.left l.at

abbrev pub decreases-loop-left : goal.decreases-loop-left
decreases-loop-left g l = l.left
