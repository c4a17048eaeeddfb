-- `second_reading::lines::fields_fault` meets its contract.
use Rattle.second_reading.proofs.SecondLaws.{fields_unread, fields_5, fields_none, fields_6}
use Rattle.second_reading.proofs.lines.fields_fault.Goals as goal

pub returns-then-tests-lt8 : goal.returns-then-tests-lt8
returns-then-tests-lt8 c = search fields_unread

pub returns-then-not-range_passes : goal.returns-then-not-range_passes
returns-then-not-range_passes c = search fields_5

pub returns-then-reals_pass : goal.returns-then-reals_pass
returns-then-reals_pass c = search fields_none

pub returns-else-reals_pass : goal.returns-else-reals_pass
returns-else-reals_pass c = search fields_6
