-- `kinds::table::fixed_length` meets its contract.
use mathlib.Core.Path.{◌∙◌}
use Rattle.kinds.proofs.KindLaws.{fixed_is}
use borrow.Author.Rules.{rules}
use Rattle.kinds.proofs.table.fixed_length.Goals as goal

pub returns : goal.returns
returns c = (c.from.ensures ∙ fixed_is _ _ c.lengths.ensures, search rules)
