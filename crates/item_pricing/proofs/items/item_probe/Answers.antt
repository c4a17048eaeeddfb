-- `item_pricing::items::item_probe` meets its contract: a child or an element.
use Rattle.item_pricing.proofs.ProbeLaws.{element_probe, child_probe}
use Rattle.item_pricing.proofs.items.item_probe.Goals as goal

pub returns-then-x : goal.returns-then-x
returns-then-x c = search element_probe

pub returns : goal.returns
returns c = search child_probe
