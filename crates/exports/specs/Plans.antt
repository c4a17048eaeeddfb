-- The planner's answer as one number.
use Rattle.std.specs.Prelude.{ℕ, eqb, Result, Ok, Err}
use Rattle.sqrt.specs.Choose.{pick}
use Rattle.packing.specs.Packed.{packed_refusal, packed_counts}
use Rattle.round_costs.specs.Planner.{Answer}
use Rattle.round_costs.specs.Faults.{text_number}
use Rattle.round_costs.specs.Refusal.{Refusal}
use Rattle.round_costs.specs.Written.{Written}

-- the counts where the query is planned, number 0; else the refusal, its text by number: 00 query, 01 plan, 02 table
abbrev pub packed_answer : Answer → ℕ
packed_answer a = pick (eqb a.number 0) (packed_counts a.bytes a.steps a.tallied a.rejected) (packed_refusal a.number a.text a.line)

-- the same of the code's answer
abbrev pub packed_planned : Result Written Refusal → ℕ
packed_planned (Ok w) = packed_counts w.bytes w.steps w.tallied w.rejected
packed_planned (Err f) = packed_refusal f.number (text_number f.text) f.line
