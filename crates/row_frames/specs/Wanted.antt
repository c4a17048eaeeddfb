-- Which rows of a table are asked for: those of an operator, those with a class at a place among their children, those with a class among them.
use Rattle.std.specs.Prelude.{ℕ, Bool, false, List, get_or, eqb}
use Rattle.records.specs.Choose.{pick}
use Rattle.records.specs.FieldValues.{child_path}
use Rattle.records.specs.Atoms.{Row, op_of, children, child_at, unset}
use Rattle.records.specs.Equality.{same_class}
use Rattle.records.specs.Running.{among}
use Rattle.row_frames.specs.declared.row.Want.{Want}

-- how many children the row of a frame has
abbrev pub count_of : List ℕ → ℕ
count_of f = pick (eqb (get_or f 0 0) 0x30) (get_or f 4 0) 0

-- the path that asks for an operator, beside those of a probe
abbrev pub op_path : ℕ
op_path = 2

-- the class stands at that place; unset is no class, and a row without the place has none there
abbrev pub has_at : ℕ → ℕ → Row → Bool
has_at c p r = pick (eqb c unset) false (same_class (child_at r p) c)

-- "the operator's rows"; "the rows .. with the class at that position, or among their children"
unfoldable pub wanted : Want → Row → Bool
wanted w r =
    pick (eqb w.path op_path) (eqb (op_of r) w.class)
    (pick (eqb w.path child_path) (has_at w.class w.place r)
    (among w.class (children r)))
