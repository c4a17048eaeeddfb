-- `named_joins::joins::joins_atom` meets its contract.
use mathlib.Core.Path.{◌∙◌}
use borrow.Author.Tests.{ne_eqb}
use Rattle.named_joins.proofs.NamedLaws.{joins_other, joins_same}
use Rattle.named_joins.proofs.joins.joins_atom.Goals as goal

pub returns-then-byte_at-eq64 : goal.returns-then-byte_at-eq64
returns-then-byte_at-eq64 c = joins_same c.args.frame.now c.args.atom _ c.byte_at.ensures c.if-byte_at-eq64.true _ (c.from.ensures ∙ c.byte_at-then-byte_at-eq64.ensures)

pub returns-else-byte_at-eq64 : goal.returns-else-byte_at-eq64
returns-else-byte_at-eq64 c = rw (ne_eqb _ _ c.if-byte_at-eq64.false) (joins_other c.args.frame.now c.args.atom _ c.byte_at.ensures c.if-byte_at-eq64.false)
