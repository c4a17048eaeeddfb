-- Where the items of a frame stand. Proved part by part.
use Prim.Native.Nat.{ℕ, ◌+◌, ◌*◌, ◌<◌}
use mathlib.Core.Path.{◌≡◌, ◌∙◌}
use mathlib.Core.Bool.{Bool}
use mathlib.Core.List.{List}
use lib.Dec.{ltb}
use lib.ListN.{get_or}
use Rattle.fields.specs.Fields.{width}
use Rattle.kinds.specs.Kinds.{kind_at, fixed_length, items_of}
use Rattle.frames.specs.Frames.{kind_of}
use Rattle.passes.specs.Bound.{Bound}
use Rattle.passes.specs.Lowering.{pv_is_bound}
use Rattle.passes.specs.Lookups.{operand_at}
use Rattle.prices.specs.Items.{ItemsOf, item_at}
use Rattle.prices.specs.declared.items.Items.{Items}
use Rattle.prices.specs.declared.items.Item.{Item}

pub items_are : (f : List ℕ) (k i w n o : ℕ) → k ≡ get_or f 0 0 → (i ≡ fixed_length (kind_at k)) × (i < 16) → (w ≡ width (kind_at k).item) × (w < 16) → (n ≡ items_of (kind_of f) f) × (n < 256) → o ≡ get_or f 2 0 → ItemsOf f (record { first = i; width = w; count = n; op = o; elements = ltb 6 k })
items_are f k i w n o is hi hw hn ho = record { first = hi.0 ∙ rw is; width = hw.0 ∙ rw is; count = hn.0; op = ho; elements = rw is; early = hi.1; narrow = hw.1; few = hn.1 }

pub item_is : (f : List ℕ) (g : Items) (k : ℕ) (B : Bound) (b : Bool) → b ≡ pv_is_bound B (operand_at f (g.first + g.width * k)) → ◌≡◌ {A = Item} (record { at = g.first + g.width * k; position = k; op = g.op; element = g.elements; bound = b }) (item_at f g k B)
item_is f g k B b hb = rw hb
