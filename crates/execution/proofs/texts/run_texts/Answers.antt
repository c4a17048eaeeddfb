-- `execution::texts::run_texts` meets its contract.
use native.Mathlib.Omega.{arith}
use mathlib.Core.Path.{refl}
use Rattle.frame_tests.specs.Limits.{text_most}
use Rattle.reading.specs.Index.{few_slots, many_slots}
use Rattle.reading.specs.IndexedReading.{tiny_text, short_text, middle_text}
use Rattle.reading.proofs.LentLaws.{lent_for}
use Rattle.execution.proofs.texts.run_texts.Goals as goal

pub run_read-requires : goal.run_read-requires
run_read-requires c = record { arrays_fit = omega arith; lent = lent_for _ tiny_text few_slots refl (λ _. c.if-plan-le-TINY_TEXT.true) }

pub run_read-requires-then-plan-le-SHORT_TEXT : goal.run_read-requires-then-plan-le-SHORT_TEXT
run_read-requires-then-plan-le-SHORT_TEXT c = record { arrays_fit = omega arith; lent = lent_for _ short_text many_slots refl (λ _. c.if-plan-le-SHORT_TEXT.true) }

pub run_read-requires-then-plan-le-MIDDLE_TEXT : goal.run_read-requires-then-plan-le-MIDDLE_TEXT
run_read-requires-then-plan-le-MIDDLE_TEXT c = record { arrays_fit = omega arith; lent = lent_for _ middle_text many_slots refl (λ _. c.if-plan-le-MIDDLE_TEXT.true) }

pub run_read-requires-2 : goal.run_read-requires-2
run_read-requires-2 c = record { arrays_fit = omega arith; lent = lent_for _ text_most many_slots refl (λ h. h) }
