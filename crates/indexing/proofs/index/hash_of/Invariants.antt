-- `indexing::index::hash_of` meets its contract: the bytes that count, mixed one after the other.
use Rattle.std.proofs.Common.{take}
use Rattle.indexing.proofs.SlotLaws.{Mixing}
use Rattle.indexing.proofs.index.hash_of.Given as goal

abbrev pub invariant-loop-b : goal.invariant-loop-b
invariant-loop-b l = Mixing l.key (take l.n l.key) l.h l.b-index
