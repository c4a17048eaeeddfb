-- The answer of a round's costs as one number.
use Rattle.std.specs.Prelude.{ℕ, true, false}
use Rattle.packing.specs.Packed.{packed_refusal, packed_choice}
use Rattle.round_costs.specs.Costs.{Answer, Chosen, Ended, Invalid}

-- the atom chosen, or that no atom is a candidate; a refusal with its text, 00 the query, 02 the table
abbrev pub packed_round : Answer → ℕ
packed_round (Chosen i) = packed_choice true i
packed_round Ended = packed_choice false 0
packed_round (Invalid k t l) = packed_refusal k t l
