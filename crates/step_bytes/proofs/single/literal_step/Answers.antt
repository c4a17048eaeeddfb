-- `step_bytes::single::literal_step` meets its contract: by the kind.
use Rattle.step_bytes.proofs.SingleLaws.{is_lit, is_lit_bind}
use Rattle.step_bytes.proofs.single.literal_step.Goals as goal

pub returns-then-byte_at-eq2 : goal.returns-then-byte_at-eq2
returns-then-byte_at-eq2 c = search is_lit

pub returns : goal.returns
returns c = search is_lit_bind
