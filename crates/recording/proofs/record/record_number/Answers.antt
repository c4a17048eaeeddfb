-- `recording::record::record_number` meets its contract: by whether there is such an atom.
use Rattle.passes.proofs.LocatedLaws.{place_sized, place_within, line_ready}
use Rattle.recording.proofs.ChangedLaws.{number_none, number_some}
use borrow.Author.Rules.{rules}
use Rattle.recording.proofs.record.record_number.Goals as goal

pub atom_line-requires : goal.atom_line-requires
atom_line-requires c = record { bound_most_in_bounds = search place_sized; lined = search place_within }

pub record_atom-requires : goal.record_atom-requires
record_atom-requires c = record { atom_line = search line_ready; em_len = search rules }

pub returns-then-i-n : goal.returns-then-i-n
returns-then-i-n c = search number_some

pub returns-else-i-n : goal.returns-else-i-n
returns-else-i-n c = search number_none
