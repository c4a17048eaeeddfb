-- `numbers` meets its contract: a line at each turn, until one is no number, the text ends or the array is full. Assumes nothing.
use Rattle.number_lines.proofs.Laws.{array_full, text_ends, other_line, line_read}
use Rattle.number_lines.proofs.numbers.Goals as goal

pub returns-then-text-at-lt-LINE_SIZE-clause-out_after : goal.returns-then-text-at-lt-LINE_SIZE-clause-out_after
returns-then-text-at-lt-LINE_SIZE-clause-out_after c = search text_ends

pub returns-in_default-clause-out_after : goal.returns-in_default-clause-out_after
returns-in_default-clause-out_after c = other_line _ _ _ _ c.loop-n.invariant c.loop-n-test.true c.if-text-at-lt-LINE_SIZE.false _ c.number.ensures c.in_default.is

pub loop-n-preserved : goal.loop-n-preserved
loop-n-preserved c = line_read _ _ _ _ c.loop-n.invariant c.loop-n-test.true c.if-text-at-lt-LINE_SIZE.false _ c.number.ensures _ c.in-Some.is

pub returns-clause-out_after : goal.returns-clause-out_after
returns-clause-out_after c = search array_full
