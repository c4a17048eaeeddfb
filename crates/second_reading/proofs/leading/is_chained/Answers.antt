-- `second_reading::leading::is_chained` meets its contract.
use mathlib.Core.Path.{◌∙◌}
use Rattle.second_reading.proofs.LeadingLaws.{chained_other, chained_itself, chained_earlier, chained_leader, key_whole}
use Rattle.second_reading.proofs.leading.is_chained.Goals as goal

pub returns-then-byte_at-ne52 : goal.returns-then-byte_at-ne52
returns-then-byte_at-ne52 c = chained_other c.args.sheet.now c.args.index.now c.args.leaders.now c.args.frame.now _ c.byte_at.ensures c.if-byte_at-ne52.true

pub returns-then-begins : goal.returns-then-begins
returns-then-begins c = chained_itself c.args.sheet.now c.args.index.now c.args.leaders.now c.args.frame.now _ c.byte_at.ensures c.if-byte_at-ne52.false c.byte_at-2.result c.byte_at-3.result c.byte_at-2.ensures c.byte_at-3.ensures _ c.begins.ensures c.if-begins.true

pub key_given-requires : goal.key_given-requires
key_given-requires c = record { k_value = key_whole c.byte_at-2.result c.byte_at-3.result; hash_value = c.hash_of.ensures; falling = c.requires }

pub returns-then-key_given : goal.returns-then-key_given
returns-then-key_given c = c.if-key_given.true ∙ chained_earlier c.args.sheet.now c.args.index.now c.args.leaders.now c.args.frame.now _ c.byte_at.ensures c.if-byte_at-ne52.false c.byte_at-2.result c.byte_at-3.result c.byte_at-2.ensures c.byte_at-3.ensures _ c.begins.ensures c.if-begins.false _ c.key_given.ensures c.if-key_given.true

pub returns-else-key_given : goal.returns-else-key_given
returns-else-key_given c = chained_leader c.args.sheet.now c.args.index.now c.args.leaders.now c.args.frame.now _ c.byte_at.ensures c.if-byte_at-ne52.false c.byte_at-2.result c.byte_at-3.result c.byte_at-2.ensures c.byte_at-3.ensures _ c.begins.ensures c.if-begins.false _ c.key_given.ensures c.if-key_given.false _ c.short_at.ensures _ c.has_class.ensures
