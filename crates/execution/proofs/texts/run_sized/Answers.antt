-- `execution::texts::run_sized` meets its contract.
use native.Mathlib.Omega.{arith}
use mathlib.Core.Path.{refl}
use Rattle.frame_tests.specs.Limits.{text_most}
use Rattle.reading.specs.Index.{few_slots, many_slots}
use Rattle.reading.specs.IndexedReading.{tiny_text, short_text, middle_text}
use Rattle.execution.proofs.TextLaws.{table_lent}
use Rattle.execution.proofs.texts.run_sized.Goals as goal

pub run_lent-requires : goal.run_lent-requires
run_lent-requires c = record { plan_sheet = c.requires; arrays_fit = omega arith; table_lent = table_lent _ tiny_text few_slots 51 refl (λ _. c.if-table-le-TINY_TEXT.true) (omega arith) (λ c a b. omega arith) (omega arith) }

pub run_lent-requires-then-table-le-SHORT_TEXT : goal.run_lent-requires-then-table-le-SHORT_TEXT
run_lent-requires-then-table-le-SHORT_TEXT c = record { plan_sheet = c.requires; arrays_fit = omega arith; table_lent = table_lent _ short_text many_slots 409 refl (λ _. c.if-table-le-SHORT_TEXT.true) (omega arith) (λ c a b. omega arith) (omega arith) }

pub run_lent-requires-then-table-le-MIDDLE_TEXT : goal.run_lent-requires-then-table-le-MIDDLE_TEXT
run_lent-requires-then-table-le-MIDDLE_TEXT c = record { plan_sheet = c.requires; arrays_fit = omega arith; table_lent = table_lent _ middle_text many_slots 1024 refl (λ _. c.if-table-le-MIDDLE_TEXT.true) (omega arith) (λ c a b. omega arith) (omega arith) }

pub run_lent-requires-2 : goal.run_lent-requires-2
run_lent-requires-2 c = record { plan_sheet = c.requires; arrays_fit = omega arith; table_lent = table_lent _ text_most many_slots 1024 refl (λ h. h) (omega arith) (λ c a b. omega arith) (omega arith) }
