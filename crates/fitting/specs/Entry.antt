-- The answers of the code, in document 01's numbers, and the plan of a sheet.
use Rattle.std.specs.Prelude.{ℕ, List, Ok, Err}
use Rattle.std.specs.Prelude.{Result as ResultOf}
use Rattle.plan_text.specs.Sheet.{frame_at, frames_in}
use Rattle.plan_text.specs.QueryAtoms.{atoms_in}
use Rattle.plan_text.specs.Choice.{planned, remembered}
use Rattle.fitting.specs.Planner.{Plan, plan_by, Answer, writes, refusal, Result}
use Rattle.gathering.specs.Faults.{text_number}
use Rattle.gathering.specs.Refusal.{Refusal}
use Rattle.fitting.specs.declared.fit.Written.{Written}

-- bytes written, steps, tallied, rejected; or number, text and line
abbrev pub planned_answer : ResultOf Written Refusal → Answer
planned_answer (Ok w) = writes w.bytes w.steps w.tallied w.rejected
planned_answer (Err f) = refusal f.number (text_number f.text) f.line

-- the answer r with the output o is what the definition gives
abbrev pub planned_result : ResultOf Written Refusal → List ℕ → Result
planned_result r o = record { answer = planned_answer r; output = o }

-- the plan of a sheet's frames
abbrev pub plan_on : List ℕ → Plan
plan_on s =
    plan_by (frame_at s 0) (planned (frames_in s) (atoms_in (frames_in s))).steps (remembered (frames_in s) (atoms_in (frames_in s))).tally.tallied (remembered (frames_in s) (atoms_in (frames_in s))).tally.rejected
