-- `prices::items::items_at_lem` meets its contract: part by part.
use Rattle.prices.proofs.ItemPlaces.{items_are}
use Rattle.prices.proofs.items.items_at.Goals as goal

pub returns : goal.returns
returns c = search items_are
