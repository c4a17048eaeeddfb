-- The lookups of an atom by its operands that are bound.
use Rattle.std.specs.Prelude.{ℕ, List, get_or, eqb}
use Rattle.output.specs.Atoms.{Lookup}
use Rattle.binding.specs.Bound.{Bound}
use Rattle.binding.specs.ItemOperands.{item_operands}
use Rattle.step_bytes.specs.Pieces.{lookups_of}

-- the lookups by its operands that are bound: those of a Plain by their positions
abbrev pub operand_lookups : Bound → List ℕ → List Lookup
operand_lookups B f = lookups_of (eqb (get_or f 0 0) 1) B 0 (item_operands f)
