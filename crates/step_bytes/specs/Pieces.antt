-- The pieces of an atom's steps as they are written.
use Rattle.std.specs.Prelude.{ℕ, zero, suc, ◌+◌, Bool, true, false, List, [], ◌∷◌, ◌++◌, get_or, take}
use Rattle.output.specs.Atoms.{Operand, Lookup, ByChildPos, ByContains}
use Rattle.binding.specs.Bound.{Bound}
use Rattle.binding.specs.Lowering.{child_lookups, contains_lookups}
use Rattle.output.specs.Lookups.{operand_at}
use Rattle.output.specs.StepFrames.{tag_of, index_of}

-- a Plain looks its children up by their positions, from i on; any other its elements
abbrev pub lookups_of : Bool → Bound → ℕ → List Operand → List Lookup
lookups_of true B i cs = child_lookups B i cs
lookups_of false B i cs = contains_lookups B cs

abbrev pub lookup_for : Bool → Operand → ℕ → Lookup
lookup_for true c i = ByChildPos c i
lookup_for false c i = ByContains c

-- an item of a frame f at byte j, as a step with items of width w has it: the operand, then its multiplicity
abbrev pub item_bytes : ℕ → List ℕ → ℕ → List ℕ
item_bytes w f j = take w (tag_of (operand_at f j) ∷ index_of (operand_at f j) ∷ get_or f (j + 2) 0 ∷ [])

-- n items, from byte i on
unfoldable pub items_bytes : ℕ → List ℕ → ℕ → ℕ → List ℕ
items_bytes w f i zero = []
items_bytes w f i (suc n) = item_bytes w f i ++ items_bytes w f (i + w) n
