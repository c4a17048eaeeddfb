-- `emitting::atom::emit_collection` meets its contract: the Join, then the step behind it.
use Rattle.emitting.proofs.EmitLaws.{collection_most, collection_emits}
use borrow.Author.Rules.{rules}
use Rattle.emitting.proofs.atom.emit_collection.Goals as goal

pub expand-requires : goal.expand-requires
expand-requires c = record { bound = search rules; frame_bound = search collection_most; at_bound = search rules }

pub returns : goal.returns
returns c = search collection_emits
