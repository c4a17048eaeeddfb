-- `emitting::atom::emit_atom` meets its contract: a Plain marks its children as it goes, any other atom behind its steps.
use Rattle.emitting.proofs.EmitLaws.{lowers_behind}
use borrow.Author.Rules.{rules}
use Rattle.emitting.proofs.atom.emit_atom.Goals as goal

pub returns : goal.returns
returns c = record { bound_after = search lowers_behind; emits = search rules }
