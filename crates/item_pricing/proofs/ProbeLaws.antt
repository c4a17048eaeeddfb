-- The probe of an item. Proved by its clauses.
use mathlib.Core.Path.{◌≡◌}
use mathlib.Core.Bool.{true, false}
use Rattle.samples.specs.declared.sampled.Probe.{Probe}
use Rattle.prices.specs.declared.items.Item.{Item}
use Rattle.item_pricing.specs.ItemCosts.{item_probe}

module _ (x : Item) where
  pub element_probe : x.element ≡ true → ◌≡◌ {A = Probe} (record { op = x.op; path = 1; place = 0 }) (item_probe x)
  element_probe h = rw h

  pub child_probe : x.element ≡ false → ◌≡◌ {A = Probe} (record { op = x.op; path = 0; place = x.position }) (item_probe x)
  child_probe h = rw h
