-- The items of an atom's frame, children of a Plain or elements of a collection: where they stand, and their measured fan-outs.
use Rattle.std.specs.Prelude.{Some, None}
use Rattle.std.specs.Prelude.{Option as OptionOf}
use Rattle.std.specs.Prelude.{ℕ, ◌+◌, ◌*◌, ◌<◌, ◌≡◌, Bool, true, false, List, ltb, get_or, Float}
use Rattle.std.specs.Float.{binary64}
use Rattle.std.specs.Float.Ieee.{mul}
use Rattle.measure.specs.Selectivity.{path_selectivity}
use Rattle.passes.specs.Statistics.{base_card, by_child_pos, by_contains, by_repr, nodes}
use Rattle.fields.specs.Fields.{width as width_of}
use Rattle.kinds.specs.Kinds.{fixed_length, items_of}
use Rattle.frames.specs.Frames.{kind_of}
use Rattle.passes.specs.Bound.{Bound}
use Rattle.passes.specs.Lowering.{pv_is_bound}
use Rattle.passes.specs.Lookups.{operand_at}
use Rattle.prices.specs.declared.items.Items.{Items}
use Rattle.prices.specs.declared.items.Item.{Item}

-- the items of the frame f, as its kind has them
pub record ItemsOf (f : List ℕ) (g : Items) : Type 0 where
  pub first : g.first ≡ fixed_length (kind_of f)
  pub width : g.width ≡ width_of (kind_of f).item
  pub count : g.count ≡ items_of (kind_of f) f
  pub op : g.op ≡ get_or f 2 0
  pub elements : g.elements ≡ ltb 6 (get_or f 0 0)
  pub early : g.first < 16
  pub narrow : g.width < 16
  pub few : g.count < 256

-- item number k of them
abbrev pub item_at : List ℕ → Items → ℕ → Bound → Item
item_at f g k B = record { at = g.first + g.width * k; position = k; op = g.op; element = g.elements; bound = pv_is_bound B (operand_at f (g.first + g.width * k)) }

-- the measured fan-out of an item at position p: an element's, else a child's
abbrev pub item_fan : List (List ℕ) → ℕ → Bool → ℕ → OptionOf Float
item_fan fs o true p = by_contains fs o
item_fan fs o false p = by_child_pos fs o p

-- a fan-out, else another
abbrev pub or_fan : OptionOf Float → OptionOf Float → OptionOf Float
or_fan (Some x) f = Some x
or_fan None f = f

-- "base times selectivity(by_repr, nodes)", as `by_repr_cost` has it
abbrev pub repr_selectivity : List (List ℕ) → Float
repr_selectivity fs = path_selectivity (Some (by_repr fs)) (nodes fs)

abbrev pub repr_cost : List (List ℕ) → ℕ → ℕ → Float
repr_cost fs o i = mul binary64 (base_card fs o i) (repr_selectivity fs)
