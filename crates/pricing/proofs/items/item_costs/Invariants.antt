-- `pricing::items::item_costs` meets its contract: the items left give what all give.
use mathlib.Core.List.{map}
use Rattle.cost.specs.Sheet.{frames_in}
use Rattle.cost.specs.Emitters.{decode}
use Rattle.pricing.proofs.ItemsLaws.{Counting}
use Rattle.pricing.proofs.items.item_costs.Given as goal

abbrev pub invariant-loop-k : goal.invariant-loop-k
invariant-loop-k l = Counting (frames_in l.sheet) (map decode l.em) l.bound l.frame l.g l.initial.c.tallies.how l.initial.keys l.initial.values l.initial.c l.keys l.values l.c l.k
