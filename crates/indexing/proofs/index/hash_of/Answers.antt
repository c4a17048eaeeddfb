-- `indexing::index::hash_of` meets its contract: the bytes that count, mixed one after the other.
use Rattle.indexing.proofs.SlotLaws.{hash_empty, mix_starts, mix_again, mix_ends}
use Rattle.indexing.proofs.index.hash_of.Goals as goal

pub returns-then-key-eq0 : goal.returns-then-key-eq0
returns-then-key-eq0 c = hash_empty _ c.if-key-eq0.true

pub loop-b-init : goal.loop-b-init
loop-b-init c = mix_starts _ _ _ c.hashed.ensures.0 c.min-n.ensures

pub loop-b-preserved : goal.loop-b-preserved
loop-b-preserved c = mix_again _ _ _ _ c.loop-b.invariant _ c.loop-b-test.true c.from.ensures

pub returns : goal.returns
returns c = mix_ends _ _ _ _ c.loop-b.invariant c.loop-b-test.false
