-- `cost::draws::operator_of` meets its contract: the frames that are left decide.
use Rattle.cost.proofs.OperatorLaws.{seeking_end, seeking_pass, seeking_here, seeking_next}
use Rattle.cost.proofs.draws.operator_of.Goals as goal

pub loop-frame-preserved-then-not-is_atom : goal.loop-frame-preserved-then-not-is_atom
loop-frame-preserved-then-not-is_atom c = seeking_pass _ _ _ _ c.loop-frame.invariant _ _ c.in-Some.ensures.steps _ c.byte_at.ensures _ c.is_atom.ensures c.if-not-is_atom.true

pub returns-then-left-eq0 : goal.returns-then-left-eq0
returns-then-left-eq0 c = seeking_here _ _ _ _ c.loop-frame.invariant _ _ c.in-Some.ensures.steps _ c.byte_at.ensures _ c.is_atom.ensures c.if-not-is_atom.false c.if-left-eq0.true _ c.byte_at-then-left-eq0.ensures

pub loop-frame-preserved : goal.loop-frame-preserved
loop-frame-preserved c = seeking_next _ _ _ _ c.loop-frame.invariant _ _ c.in-Some.ensures.steps _ c.byte_at.ensures _ c.is_atom.ensures c.if-not-is_atom.false c.if-left-eq0.false

pub returns : goal.returns
returns c = seeking_end _ _ _ _ c.loop-frame.invariant c.in-None.ensures.steps.0
