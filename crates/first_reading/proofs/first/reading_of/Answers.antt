-- `first_reading::first::reading_of` meets its contract: the test of its fault.
use Rattle.first_reading.proofs.StandLaws.{says_accepted, says_refused}
use Rattle.first_reading.proofs.first.reading_of.Goals as goal

pub returns-then-s-eq0 : goal.returns-then-s-eq0
returns-then-s-eq0 c = search says_accepted

pub returns-else-s-eq0 : goal.returns-else-s-eq0
returns-else-s-eq0 c = search says_refused
