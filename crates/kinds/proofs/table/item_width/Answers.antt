-- `kinds::table::item_width` meets its contract.
use mathlib.Core.Path.{◌∙◌}
use Rattle.kinds.proofs.KindLaws.{width_is}
use borrow.Author.Rules.{rules}
use Rattle.kinds.proofs.table.item_width.Goals as goal

pub returns : goal.returns
returns c = (c.from.ensures ∙ width_is _ _ c.lengths.ensures, search rules)
