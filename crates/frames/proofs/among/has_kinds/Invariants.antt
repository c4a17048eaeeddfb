-- `frames::among::has_kinds` meets its contract: the frames that are left decide.
use Rattle.std.proofs.Common.{◌≡◌}
use Rattle.frames.specs.Among.{has_kinds}
use Rattle.frames.specs.Sheet.{frames_in}
use Rattle.frames.proofs.among.has_kinds.Given as goal

abbrev pub invariant-loop-frame : goal.invariant-loop-frame
invariant-loop-frame l = has_kinds l.low l.high (frames_in l.sheet) ≡ has_kinds l.low l.high (frames_in l.frame-iterator.rest.now)
