-- The costs of a round, for the caller: their bits in a lent array, and the atom chosen.
use Rattle.std.specs.Prelude.{ℕ, suc, List, [], map, length, Float, Some, None, Ok, Err}
use Rattle.std.specs.Prelude.{Option as OptionOf, Result as ResultOf}
use Rattle.std.proofs.Math.Option.{Option, none, some}
use Rattle.first_reading.specs.First.{frames_of}
use Rattle.buckets.specs.Atoms.{Atom}
use Rattle.fitting.specs.QueryAtoms.{atoms_in}
use Rattle.fitting.specs.Choice.{Memory, rounds}
use Rattle.fitting.specs.Planner.{given, after_readings}
use Rattle.cost_bits.specs.CostBits.{cost_bits}
use Rattle.fitting.specs.Faults.{text_number}
use Rattle.fitting.specs.Refusal.{Refusal}
use Rattle.cost_bits.specs.ToldBits.{bits_in}

pub data Answer : Type 0 where
  -- the atom chosen
  Chosen : ℕ → Answer
  -- no atom is a candidate
  Ended : Answer
  -- number, text, line
  Invalid : ℕ → ℕ → ℕ → Answer

pub record Result : Type 0 where
  pub answer : Answer
  pub output : List ℕ

-- the atom chosen; no candidate; or number, text and line
abbrev pub round_answer : ResultOf (OptionOf ℕ) Refusal → Answer
round_answer (Ok (Some i)) = Chosen i
round_answer (Ok None) = Ended
round_answer (Err f) = Invalid f.number (text_number f.text) f.line

-- "result and lent output follow from the inputs, refusals too"
abbrev pub round_result : ResultOf (OptionOf ℕ) Refusal → List ℕ → Result
round_result r o = record { answer = round_answer r; output = o }

-- what is remembered of round number r of the atoms qs by the frames fs, or of the last one where the rounds have ended before
abbrev pub round_of : List (List ℕ) → List Atom → ℕ → Memory
round_of fs qs r = (rounds fs qs (suc r)).memory

-- the costs of the round, where an atom was chosen in it
abbrev pub told_by : Option ℕ → List (Option Float) → List ℕ → Result
told_by none cs out = record { answer = Ended; output = bits_in [] (length out) }
told_by (some i) cs out = record { answer = Chosen i; output = bits_in (map cost_bits cs) (length out) }

abbrev pub told : Memory → List ℕ → Result
told m out = told_by m.chosen m.costs out

-- "Nothing is written"
abbrev pub refused_with : List ℕ → ℕ → ℕ → ℕ → Result
refused_with out k t l = record { answer = Invalid k t l; output = out }

-- round number r, from 0, of the query text x, with the table text t beside it or none
unfoldable pub round_costs : List ℕ → Option (List ℕ) → ℕ → List ℕ → Result
round_costs x t r out = after_readings (refused_with out) x t (told (round_of (given x t) (atoms_in (frames_of x)) r) out)
