-- `frame_tests::tests::frame_fault` meets its contract.
use mathlib.Core.Path.{◌∙◌}
use Rattle.frame_tests.proofs.FaultLaws.{fault_2, fault_3, fault_4, fault_none, fault_full}
use Rattle.frames.proofs.FrameLaws.{row_tests_here, row_codes_here}
use Rattle.frames.proofs.KindLaws.{row_tests, tests_text}
use Rattle.frame_tests.proofs.tests.frame_fault.Goals as goal

pub belongs-requires : goal.belongs-requires
belongs-requires c = tests_text _ _ (c.low_byte-tests.ensures ∙ row_tests _ _ c.row-row.ensures)

pub returns-then-not-belongs : goal.returns-then-not-belongs
returns-then-not-belongs c = search fault_2

pub returns-then-frame-frame_length : goal.returns-then-frame-frame_length
returns-then-frame-frame_length c = search fault_3

pub limits_pass-requires : goal.limits_pass-requires
limits_pass-requires c = record { tests_value = search row_tests_here; codes_value = search row_codes_here }

pub returns-then-not-limits_pass : goal.returns-then-not-limits_pass
returns-then-not-limits_pass c = search fault_4

pub returns-then-has_room : goal.returns-then-has_room
returns-then-has_room c = search fault_none

pub returns-else-has_room : goal.returns-else-has_room
returns-else-has_room c = search fault_full
