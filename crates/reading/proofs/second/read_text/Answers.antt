-- `reading::second::read_text` meets its contract: with a sheet and an index of its own, by the length of the text.
use Rattle.std.proofs.Common.{lit<}
use mathlib.Core.Path.{refl}
use Rattle.second_reading.specs.Limits.{text_most}
use Rattle.second_reading.specs.Index.{few_slots, many_slots}
use Rattle.reading.specs.IndexedReading.{tiny_text, short_text, middle_text}
use Rattle.reading.proofs.LentLaws.{lent_for}
use Rattle.reading.proofs.second.read_text.Goals as goal

pub read_sized-requires : goal.read_sized-requires
read_sized-requires c = record { lent = lent_for _ tiny_text few_slots refl (λ _. c.if-text-le-TINY_TEXT.true); sizes = (lit< tt, lit< tt) }

pub read_sized-requires-then-text-le-SHORT_TEXT : goal.read_sized-requires-then-text-le-SHORT_TEXT
read_sized-requires-then-text-le-SHORT_TEXT c = record { lent = lent_for _ short_text many_slots refl (λ _. c.if-text-le-SHORT_TEXT.true); sizes = (lit< tt, lit< tt) }

pub read_sized-requires-then-text-le-MIDDLE_TEXT : goal.read_sized-requires-then-text-le-MIDDLE_TEXT
read_sized-requires-then-text-le-MIDDLE_TEXT c = record { lent = lent_for _ middle_text many_slots refl (λ _. c.if-text-le-MIDDLE_TEXT.true); sizes = (lit< tt, lit< tt) }

pub read_sized-requires-else-text-le-MIDDLE_TEXT : goal.read_sized-requires-else-text-le-MIDDLE_TEXT
read_sized-requires-else-text-le-MIDDLE_TEXT c = record { lent = lent_for _ text_most many_slots refl (λ h. h); sizes = (lit< tt, lit< tt) }
