-- `step_bytes::collection::expand_part` meets its contract: the step of each kind.
use Rattle.step_bytes.proofs.OpenLaws.{a_exact, a_prefix, a_suffix, a_both, ac_exact, ac_sub, aci_exact, aci_sub}
use Rattle.step_bytes.proofs.collection.expand_part.Goals as goal

pub returns-in-7 : goal.returns-in-7
returns-in-7 c = search a_exact

pub returns-in-8 : goal.returns-in-8
returns-in-8 c = search a_prefix

pub returns-in-9 : goal.returns-in-9
returns-in-9 c = search a_suffix

pub returns-in-10 : goal.returns-in-10
returns-in-10 c = search a_both

pub returns-in-11 : goal.returns-in-11
returns-in-11 c = search ac_exact

pub returns-in-12 : goal.returns-in-12
returns-in-12 c = search ac_sub

pub returns-in-13 : goal.returns-in-13
returns-in-13 c = search aci_exact

pub returns-in_default : goal.returns-in_default
returns-in_default c = search aci_sub
