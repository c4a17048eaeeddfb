-- `extracting::elements::put_items` meets its contract: the items left give what all give.
use Prim.Native.Nat.{◌+◌, ◌*◌}
use mathlib.Core.Path.{◌≡◌}
use native.Mathlib.Omega.{arith}
use borrow.Author.Rules.{rules}
use Rattle.extracting.proofs.ElementLaws.{listing_none, item_fits, listing_again, listed, listed_room}
use Rattle.extracting.proofs.elements.put_items.Goals as goal

pub loop-k-init : goal.loop-k-init
loop-k-init c = let e : c.fixed_length-i.result + c.args.w * 0 ≡ c.fixed_length-i.result = omega arith in rw e (search listing_none)

pub put_first-at-requires : goal.put_first-at-requires
put_first-at-requires c = record { n_in_bounds = search item_fits; n_bound = search rules; at_bound = search rules }

pub loop-k-preserved : goal.loop-k-preserved
loop-k-preserved c =
    let e : c.fixed_length-i.result + c.args.w * (c.loop-k.k + 1) ≡ c.fixed_length-i.result + c.args.w * c.loop-k.k + c.args.w = omega arith in
    rw e (listing_again _ _ _ _ _ _ _ _ _ c.loop-k.invariant _ c.item_at-item.ensures _ _ c.loop-k-test.true c.put_first-at.ensures)

pub returns : goal.returns
returns c = record { upper_bound = search listed_room; puts_bytes = search listed }
