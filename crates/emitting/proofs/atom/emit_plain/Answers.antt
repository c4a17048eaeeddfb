-- `emitting::atom::emit_plain` meets its contract: the Join, then the children.
use Rattle.emitting.proofs.EmitLaws.{plain_node, plain_below, plain_behind, plain_emits}
use borrow.Author.Rules.{rules}
use Rattle.emitting.proofs.atom.emit_plain.Goals as goal

pub set_bound-requires : goal.set_bound-requires
set_bound-requires c = search plain_node

pub read_children-requires : goal.read_children-requires
read_children-requires c = record { frame_value = plain_below _ c.requires.emittable c.requires.frame_value _ c.requires.bound_len _ c.byte_at.ensures _ c.set_bound.ensures; from_bound = search rules }

pub returns : goal.returns
returns c = record { bound_after = search plain_behind; emits = search plain_emits }
