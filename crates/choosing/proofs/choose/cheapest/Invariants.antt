-- `choosing::choose::cheapest` meets its contract: the atoms left, from the best so far, give what all give, and so do their costs.
use mathlib.Core.List.{map}
use Rattle.cost.specs.Emitters.{decode}
use Rattle.choosing.proofs.ChoiceLaws.{Scanning}
use Rattle.choosing.proofs.choose.cheapest.Given as goal

abbrev pub invariant-loop-i : goal.invariant-loop-i
invariant-loop-i l = Scanning l.sheet (map decode l.d.emitters) l.d.used l.d.bound l.n l.initial.b.tallies l.initial.keys l.initial.values l.initial.costs l.keys l.values l.costs l.b l.i
