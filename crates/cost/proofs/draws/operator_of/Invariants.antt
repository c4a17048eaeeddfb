-- `cost::draws::operator_of` meets its contract: the frames that are left decide.
use Rattle.std.proofs.Common.{◌≡◌}
use Rattle.samplers.specs.Sheet.{frames_in}
use Rattle.cost.specs.Sampling.{operator_of}
use Rattle.cost.proofs.draws.operator_of.Given as goal

abbrev pub invariant-loop-frame : goal.invariant-loop-frame
invariant-loop-frame l = operator_of (frames_in l.sheet) l.atom ≡ operator_of (frames_in l.frame-iterator.rest.now) l.left
