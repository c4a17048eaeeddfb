-- `recording::changed::changed` meets its contract: what is listed, and what is left to list, give the whole.
use Rattle.recording.proofs.ChangedLaws.{Listing}
use Rattle.recording.proofs.changed.changed.Given as goal

abbrev pub invariant-loop-i : goal.invariant-loop-i
invariant-loop-i l = Listing l.before l.used l.n l.initial.list l.list l.i l.c
