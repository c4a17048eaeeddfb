-- `prices::items::item_at` meets its contract: part by part.
use Rattle.prices.proofs.ItemPlaces.{item_is}
use Rattle.prices.proofs.items.item_at.Goals as goal

pub returns : goal.returns
returns c = search item_is
