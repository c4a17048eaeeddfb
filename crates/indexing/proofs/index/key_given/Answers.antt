-- `indexing::index::key_given` meets its contract.
use mathlib.Core.Path.{refl}
use native.Mathlib.Omega.{arith}
use Rattle.frame_keys.proofs.Lists.{taken}
use Rattle.indexing.proofs.SearchLaws.{no_key, key_is, key_absent}
use Rattle.indexing.proofs.SlotLaws.{key_hash, least}
use Rattle.indexing.proofs.index.key_given.Goals as goal
use Rattle.indexing.proofs.index.key_given.Goals.{then-k-eq0-via-then-k-eq0, then-k-eq0-via-else-k-eq0+then-is_empty}

pub returns-then-k-eq0 : goal.returns-then-k-eq0
returns-then-k-eq0 c =
    elim c.then-k-eq0.branch [
      | then-k-eq0-via-then-k-eq0 w ↦ no_key _ c.args.sheet.now c.args.index.now c.args.frame.now _ _ refl c.requires.k_value w.if-k-eq0.true
      | then-k-eq0-via-else-k-eq0+then-is_empty w ↦ key_absent _ c.args.sheet.now c.args.index.now c.args.frame.now _ _ refl c.requires.k_value _ _ refl w.if-k-eq0.false c.requires.hash_value w.is_empty.ensures w.if-is_empty.true
    ]

pub slice_bounds-search-end : goal.slice_bounds-search-end
slice_bounds-search-end c = taken _ _ (omega (arith, c.min-n.ensures))

pub search-alike-requires : goal.search-alike-requires
search-alike-requires c = record { falling = c.requires.falling; hash_value = key_hash c.args.frame.now _ _ _ _ _ refl c.requires.k_value c.if-k-eq0.false c.from.ensures (least _ _ _ c.min-n.ensures) c.requires.hash_value }

pub returns : goal.returns
returns c = key_is _ c.args.sheet.now c.args.index.now c.args.frame.now _ _ refl c.requires.k_value _ _ _ c.if-k-eq0.false c.from.ensures (least _ _ _ c.min-n.ensures) c.search-alike.ensures
