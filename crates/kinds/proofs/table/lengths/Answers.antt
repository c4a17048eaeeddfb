-- `kinds::table::lengths` meets its contract.
use mathlib.Core.Path.{◌∙◌}
use Rattle.kinds.proofs.KindLaws.{word_place, lengths_at_lem, lengths_beyond}
use Rattle.kinds.proofs.table.lengths.Goals as goal

pub returns-then-kind-ge-KINDS_END : goal.returns-then-kind-ge-KINDS_END
returns-then-kind-ge-KINDS_END c = lengths_beyond _ c.if-kind-ge-KINDS_END.true

pub word_at-word-requires : goal.word_at-word-requires
word_at-word-requires c = word_place _ _ c.from-k.ensures c.if-kind-ge-KINDS_END.false

pub returns : goal.returns
returns c = c.low_byte.ensures
    ∙ rw c.word_at-word.ensures (lengths_at_lem _ _ c.from-k.ensures c.if-kind-ge-KINDS_END.false)
