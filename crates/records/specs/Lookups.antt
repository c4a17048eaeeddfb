-- Operands and lookups of a plan's frames: what begins at byte i of a frame.
use Rattle.std.specs.Prelude.{ℕ, ◌+◌, List, get_or, eqb}
use Rattle.model.specs.Choose.{pick}
use Rattle.reading.specs.FieldValues.{local_tag, by_op_tag, by_child_pos_tag, by_repr_tag}
use Rattle.model.specs.Atoms.{Operand, local, global, Lookup, ByOp, ByChildPos, ByRepr, ByContains}
use Rattle.records.specs.Items.{items_at}

-- "An operand is tag (00 local, 01 global) and index."
abbrev pub operand_at : List ℕ → ℕ → Operand
operand_at f i = pick (eqb (get_or f i 0) local_tag) (local (get_or f (i + 1) 0)) (global (get_or f (i + 1) 0))

-- "Lookups are four bytes: 00 op 00 00; 01 operand position; 02 node 00 00; 03 operand 00, for ByOp, ByChildPos, ByRepr, ByContains."
abbrev pub lookup_at : List ℕ → ℕ → Lookup
lookup_at f i =
    pick (eqb (get_or f i 0) by_op_tag) (ByOp (get_or f (i + 1) 0))
    (pick (eqb (get_or f i 0) by_child_pos_tag) (ByChildPos (operand_at f (i + 1)) (get_or f (i + 3) 0))
    (pick (eqb (get_or f i 0) by_repr_tag) (ByRepr (get_or f (i + 1) 0))
    (ByContains (operand_at f (i + 1)))))

-- a Join's lookups: "40 Join target atom n lookups"
abbrev pub lookups_of : List ℕ → List Lookup
lookups_of f = items_at lookup_at 4 f 4 (get_or f 3 0)
