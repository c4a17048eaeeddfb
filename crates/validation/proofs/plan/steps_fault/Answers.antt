-- `validation::plan::steps_fault` meets its contract: the frames left give what all give.
use Rattle.validation.proofs.PlanLaws.{walking_start, steps_few, steps_refused, step_markable, walking_again, steps_end}
use mathlib.Core.Path.{◌≡◌, ◌∙◌}
use native.Mathlib.Omega.{arith}
use Rattle.validation.proofs.plan.steps_fault.Goals as goal

pub loop-frame-init : goal.loop-frame-init
loop-frame-init c =
    let a : c.into_iter-frame-iterator.result.rest.now ≡ c.of-frame-items.result.rest.now = search c.into_iter-frame-iterator.ensures in
    walking_start _ _ _ _ _ c.requires c.frame_at-header.ensures (a ∙ c.of-frame-items.ensures)

pub overflow_add-n : goal.overflow_add-n
overflow_add-n c = omega (arith, steps_few _ _ _ _ _ _ c.loop-frame.invariant _ _ c.in-Some.ensures.steps, c.well_formed)

pub returns-then-t-ne0 : goal.returns-then-t-ne0
returns-then-t-ne0 c = steps_refused _ _ _ _ _ _ c.loop-frame.invariant _ _ c.in-Some.ensures.steps _ c.step_fault-t.ensures c.if-t-ne0.true

pub step_marks-requires : goal.step_marks-requires
step_marks-requires c = step_markable _ _ _ _ _ _ c.loop-frame.invariant _ _ c.in-Some.ensures.steps _ c.step_fault-t.ensures c.if-t-ne0.false c.requires

pub loop-frame-preserved : goal.loop-frame-preserved
loop-frame-preserved c = walking_again _ _ _ _ _ _ c.loop-frame.invariant _ _ c.in-Some.ensures.steps _ c.step_fault-t.ensures c.if-t-ne0.false _ c.step_marks.ensures

pub returns : goal.returns
returns c = steps_end _ _ _ _ _ _ c.loop-frame.invariant c.in-None.ensures.steps.0
