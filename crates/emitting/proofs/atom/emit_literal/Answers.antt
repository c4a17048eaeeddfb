-- `emitting::atom::emit_literal` meets its contract: the Join, then the step behind it.
use Rattle.emitting.proofs.EmitLaws.{literal_emits}
use Rattle.emitting.proofs.atom.emit_literal.Goals as goal

pub returns : goal.returns
returns c = search literal_emits
