-- `step_tests::simple::simple_step` meets its contract: by the kind.
use Rattle.step_tests.proofs.StepLaws.{is_extract, is_equal, is_equal_global, is_bind, is_copy, is_extract_lit, is_check_lit, is_not_run}
use Rattle.step_tests.proofs.simple.simple_step.Goals as goal

pub returns-in-65 : goal.returns-in-65
returns-in-65 c = search is_extract

pub returns-in-67 : goal.returns-in-67
returns-in-67 c = search is_equal

pub returns-in-68 : goal.returns-in-68
returns-in-68 c = search is_equal_global

pub returns-in-69 : goal.returns-in-69
returns-in-69 c = search is_bind

pub returns-in-70 : goal.returns-in-70
returns-in-70 c = search is_copy

pub returns-in-74 : goal.returns-in-74
returns-in-74 c = search is_extract_lit

pub returns-in-75 : goal.returns-in-75
returns-in-75 c = search is_check_lit

pub returns-in_default : goal.returns-in_default
returns-in_default c = search is_not_run
