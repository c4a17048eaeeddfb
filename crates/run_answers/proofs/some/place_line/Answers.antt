-- `run_answers::some::place_line` meets its contract.
use Rattle.run_answers.proofs.ReplyLaws.{no_room, has_room}
use Rattle.run_answers.proofs.some.place_line.Goals as goal

pub returns-then-out-need : goal.returns-then-out-need
returns-then-out-need c = no_room c.args.plan.now _ _ _ _ _ c.args.env c.line_from-header.ensures c.byte_at-n.ensures c.byte_at-m.ensures c.line_length-need.ensures.0 c.if-out-need.true

pub returns : goal.returns
returns c = has_room c.args.plan.now _ _ _ _ _ c.args.env c.line_from-header.ensures c.byte_at-n.ensures c.byte_at-m.ensures c.line_length-need.ensures.0 c.if-out-need.false _ _ c.write_match.ensures
