-- `frames::frame::items_pass` meets its contract.
use lib.ListN.{replicate}
use Rattle.kinds.specs.Codes.{decode}
use Rattle.frames.proofs.FrameLaws.{Passing}
use Rattle.frames.proofs.frame.items_pass.Given as goal

abbrev pub invariant-loop-item : goal.invariant-loop-item
invariant-loop-item g l = Passing (g.T.FieldTest.says l.t) (replicate l._item-end (decode l.item)) l.frame l.initial.at l.at l._item
