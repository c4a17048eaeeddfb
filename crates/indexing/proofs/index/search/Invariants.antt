-- `indexing::index::search` meets its contract.
use Rattle.indexing.proofs.SearchLaws.{Searching}
use Rattle.indexing.proofs.index.search.Given as goal

abbrev pub invariant-loop-e : goal.invariant-loop-e
invariant-loop-e l = Searching l.slots l.sheet l.index l.key l.e

abbrev pub decreases-loop-e : goal.decreases-loop-e
decreases-loop-e l = l.e
