-- The items of a frame, as operands.
use Rattle.std.specs.Prelude.{ℕ, List}
use Rattle.fields.specs.Fields.{width}
use Rattle.cost.specs.Kinds.{fixed_length, items_of}
use Rattle.cost.specs.Frames.{kind_of}
use Rattle.cost.specs.Atoms.{Operand}
use Rattle.cost.specs.QueryAtoms.{operands_from}

-- the items of a frame, by the table of kinds, as operands
abbrev pub item_operands : List ℕ → List Operand
item_operands f = operands_from f (fixed_length (kind_of f)) (width (kind_of f).item) (items_of (kind_of f) f)
