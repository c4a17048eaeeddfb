-- `step_bytes::operand::lookup_at` meets its contract: by position, or as an element.
use Rattle.step_bytes.proofs.PieceLaws.{lookup_child, lookup_element}
use Rattle.step_bytes.proofs.operand.lookup_at.Goals as goal

pub returns-then-plain : goal.returns-then-plain
returns-then-plain c = search lookup_child

pub returns-else-plain : goal.returns-else-plain
returns-else-plain c = search lookup_element
