-- `frame_keys::keys::begins_at` meets its contract.
use mathlib.Core.Path.{◌∙◌}
use Rattle.frame_keys.proofs.KeyLaws.{begins_past, begins_from}
use Rattle.frame_keys.proofs.keys.begins_at.Goals as goal

pub returns-then-sheet-at : goal.returns-then-sheet-at
returns-then-sheet-at c = c.is_empty.ensures ∙ begins_past _ _ _ c.if-sheet-at.true

pub returns-else-sheet-at : goal.returns-else-sheet-at
returns-else-sheet-at c = search begins_from
