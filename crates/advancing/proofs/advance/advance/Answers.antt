-- `advancing::advance::advance` meets its contract: the numbers listed are those whose use has changed.
use mathlib.Core.Path.{◌∙◌}
use Rattle.advancing.proofs.AdvanceLaws.{advances}
use Rattle.advancing.proofs.advance.advance.Goals as goal

pub returns : goal.returns
returns c = advances _ _ _ _ _ _ c.requires.located c.lower_eager.ensures c.changed-m.ensures c.record_numbers.ensures (c.record_numbers.auto.em ∙ c.requires.prepared.emitters)
