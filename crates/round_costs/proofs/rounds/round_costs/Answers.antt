-- `round_costs::rounds::round_costs` meets its contract: what is lent is enough for the text.
use mathlib.Core.Path.{refl}
use Rattle.reading.specs.Limits.{text_most}
use Rattle.reading.specs.Index.{few_slots, many_slots}
use Rattle.reading.specs.IndexedReading.{tiny_text, short_text, middle_text}
use Rattle.reading.proofs.LentLaws.{lent_for}
use Rattle.round_costs.proofs.rounds.round_costs.Goals as goal

pub costs_sized-requires-clause-lent : goal.costs_sized-requires-clause-lent
costs_sized-requires-clause-lent c = lent_for _ tiny_text few_slots refl (λ _. c.if-text-le-TINY_TEXT.true)

pub costs_sized-requires-then-text-le-SHORT_TEXT-clause-lent : goal.costs_sized-requires-then-text-le-SHORT_TEXT-clause-lent
costs_sized-requires-then-text-le-SHORT_TEXT-clause-lent c = lent_for _ short_text many_slots refl (λ _. c.if-text-le-SHORT_TEXT.true)

pub costs_sized-requires-then-text-le-MIDDLE_TEXT-clause-lent : goal.costs_sized-requires-then-text-le-MIDDLE_TEXT-clause-lent
costs_sized-requires-then-text-le-MIDDLE_TEXT-clause-lent c = lent_for _ middle_text many_slots refl (λ _. c.if-text-le-MIDDLE_TEXT.true)

pub costs_sized-requires-else-text-le-MIDDLE_TEXT-clause-lent : goal.costs_sized-requires-else-text-le-MIDDLE_TEXT-clause-lent
costs_sized-requires-else-text-le-MIDDLE_TEXT-clause-lent c = lent_for _ text_most many_slots refl (λ h. h)
