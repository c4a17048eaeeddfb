-- The Join of an atom, by its frame and what is bound.
use Rattle.std.specs.Prelude.{ℕ, List, get_or}
use Rattle.output.specs.Atoms.{Step, Join}
use Rattle.binding.specs.Bound.{Bound, has}
use Rattle.binding.specs.Lowering.{join_lookups}
use Rattle.join_lookups.specs.OperandLookups.{operand_lookups}

-- as atom k
abbrev pub join_of : Bound → ℕ → List ℕ → Step
join_of B k f = Join (get_or f 1 0) k (join_lookups (has B (get_or f 1 0)) (get_or f 1 0) (get_or f 2 0) (operand_lookups B f))
