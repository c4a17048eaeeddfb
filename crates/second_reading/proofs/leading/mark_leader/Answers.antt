-- `second_reading::leading::mark_leader` meets its contract.
use Rattle.second_reading.proofs.LeadingLaws.{marked_none, marked_room, marked_one}
use borrow.Author.Rules.{rules}
use Rattle.second_reading.proofs.leading.mark_leader.Goals as goal

pub add_class-requires : goal.add_class-requires
add_class-requires c = marked_room c.args.leaders.now c.args.frame.now _ c.byte_at.ensures c.if-byte_at-eq52.true c.requires

pub returns-then-byte_at-eq52 : goal.returns-then-byte_at-eq52
returns-then-byte_at-eq52 c = marked_one c.args.leaders.now c.args.frame.now _ c.byte_at.ensures c.if-byte_at-eq52.true c.requires _ c.short_at.ensures (search rules) _ c.add_class.ensures

pub returns-else-byte_at-eq52 : goal.returns-else-byte_at-eq52
returns-else-byte_at-eq52 c = marked_none c.args.leaders.now c.args.frame.now _ c.byte_at.ensures c.if-byte_at-eq52.false
