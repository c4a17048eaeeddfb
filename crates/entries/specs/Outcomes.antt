-- The answers of the runner's entries in document 01's words: "done, spent or full, with tries, matches and bytes written"; "some match, none .. or
-- spent"; a refusal's number, text and line.
use Rattle.std.specs.Prelude.{ℕ, List, [], eqb, Ok, Err}
use Rattle.std.specs.Prelude.{Result as ResultOf}
use Rattle.modes.specs.Choose.{pick}
use Rattle.modes.specs.Limits.{Status, Done, Spent, Full}
use Rattle.bindings.specs.Run.{Outcome, Refused, Ran, Result, Reply, Rejected, Match, None, Exhausted, match_line}
use Rattle.bindings.specs.Envs.{env_of}
use Rattle.entries.specs.declared.run.Status.{Status as StatusAs}
use Rattle.entries.specs.declared.run.Status.TheVariants.{Done as IsDone, Spent as IsSpent, Full as IsFull}
use Rattle.execution.specs.Faults.{text_number}
use Rattle.execution.specs.Refusal.{Refusal}
use Rattle.entries.specs.declared.run.Ran.{Ran as RanAs}
use Rattle.entries.specs.declared.some.Reply.{Reply as ReplyAs}
use Rattle.entries.specs.declared.some.Reply.TheVariants.{None as IsNoMatch, Spent as IsExhausted, Match as IsMatch}

-- ---- the run

abbrev pub status_of : StatusAs → Status
status_of IsDone = Done
status_of IsSpent = Spent
status_of IsFull = Full

-- by its number within the run: 0, 1, 2
abbrev pub status_by : ℕ → StatusAs
status_by k = pick (eqb k 0) IsDone (pick (eqb k 1) IsSpent IsFull)

abbrev pub outcome_of : ResultOf RanAs Refusal → Outcome
outcome_of (Ok r) = Ran (status_of r.status) r.tries r.matches r.written
outcome_of (Err f) = Refused f.number (text_number f.text) f.line

abbrev pub outcome_result : ResultOf RanAs Refusal → List ℕ → Result
outcome_result r o = record { outcome = outcome_of r; output = o }

-- ---- the second entry

-- none, spent, a match, or a refusal; the line of a match, by the counts of the plan p, says its classes and its literals
abbrev pub reply_of : List ℕ → ResultOf ReplyAs Refusal → Reply
reply_of p (Ok IsNoMatch) = None
reply_of p (Ok IsExhausted) = Exhausted
reply_of p (Ok (IsMatch e)) = Match (match_line p (env_of [] [] e))
reply_of p (Err f) = Rejected f.number (text_number f.text) f.line
