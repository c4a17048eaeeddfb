-- `frames::among::has_kinds` meets its contract: the frames that are left decide.
use Rattle.frames.proofs.AmongLaws.{kinds_end, kinds_found, kinds_again}
use Rattle.frames.proofs.among.has_kinds.Goals as goal

pub returns-then-is_between : goal.returns-then-is_between
returns-then-is_between c = kinds_found _ _ _ _ c.loop-frame.invariant _ _ c.in-Some.ensures.steps _ c.byte_at.ensures _ c.is_between.ensures c.if-is_between.true

pub loop-frame-preserved : goal.loop-frame-preserved
loop-frame-preserved c = kinds_again _ _ _ _ c.loop-frame.invariant _ _ c.in-Some.ensures.steps _ c.byte_at.ensures _ c.is_between.ensures c.if-is_between.false

pub returns : goal.returns
returns c = kinds_end _ _ _ _ c.loop-frame.invariant c.in-None.ensures.steps.0
