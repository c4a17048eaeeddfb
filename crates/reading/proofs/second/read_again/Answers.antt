-- `reading::second::read_again` meets its contract.
use Rattle.reading.proofs.LeadLaws.{leaders_lent, none_lent}
use Rattle.reading.proofs.second.read_again.Goals as goal

pub second_lines-requires : goal.second_lines-requires
second_lines-requires c = record { blank_for = c.requires.blank_for; leaders_for = leaders_lent _ }

pub returns-then-has_leaders : goal.returns-then-has_leaders
returns-then-has_leaders c = rw c.counts_of-n.ensures at c.second_lines.ensures

pub second_lines-requires-2 : goal.second_lines-requires-2
second_lines-requires-2 c = record { blank_for = c.requires.blank_for; leaders_for = none_lent _ _ 1 c.has_leaders.ensures c.if-has_leaders.false }

pub returns : goal.returns
returns c = rw c.counts_of-n.ensures at c.second_lines-2.ensures
