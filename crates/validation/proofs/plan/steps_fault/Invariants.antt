-- `validation::plan::steps_fault` meets its contract: the frames left give what all give.
use Rattle.validation.proofs.PlanLaws.{Walking}
use Rattle.frames.specs.Sheet.{frames_in}
use Rattle.validation.proofs.plan.steps_fault.Given as goal

abbrev pub invariant-loop-frame : goal.invariant-loop-frame
invariant-loop-frame l = Walking l.plan l.shapes l.globals l.marks (frames_in l.frame-iterator.rest.now) l.n
