-- `named_joins::joins::has_join` meets its contract: the frames that are left decide.
use Rattle.std.proofs.Common.{◌≡◌, map}
use Rattle.frames.specs.Sheet.{frames_in}
use Rattle.modes.specs.Refusing.{has_join}
use Rattle.table_tests.specs.StepFrames.{step_of}
use Rattle.table_tests.specs.Tables.{steps_in}
use Rattle.named_joins.proofs.joins.has_join.Given as goal

abbrev pub invariant-loop-frame : goal.invariant-loop-frame
invariant-loop-frame l = has_join l.atom (steps_in (frames_in l.plan)) ≡ has_join l.atom (map step_of (frames_in l.frame-iterator.rest.now))
