-- What C reads out of an answer's number by / and %, as `include/rimdovek.h` says, is what was packed into it: theorems for each function that
-- answers by such a number. Assumes nothing.
use Rattle.std.specs.Prelude.{ℕ, ◌<◌, ◌≡◌, refl, List}
use Rattle.std.proofs.Math.Option.{Option}
use Rattle.std.proofs.Common.{arith, ne_eqb}
use Rattle.packing.specs.Unpacked.{TellsRefusal, TellsCounts, TellsWritten, TellsPlain}
use Rattle.packing.proofs.UnpackedLaws.{refusal_told, counts_told, written_told, plain_told}
use Rattle.round_costs.specs.Planner.{Answer, plan}
use Rattle.round_costs.specs.Costs.{Answer as RoundAnswer, Chosen, Ended, Invalid, round_costs}
use Rattle.planner.proofs.AnswerBounds.{Within, plan_within}
use Rattle.round_costs.proofs.Bounds.{RoundWithin, round_within}
use Rattle.run_answers.specs.Running.{Mode}
use Rattle.run_answers.specs.Run.{Outcome, Refused, Ran, run, Reply, Rejected, Match, None, Exhausted, Replies}
use Rattle.run_answers.proofs.RefusalBounds.{Within as RefusedWithin, run_within, reply_within}
use Rattle.run_answers.specs.Runs.{packed_run}
use Rattle.run_answers.specs.Halts.{status_number}
use Rattle.run_answers.specs.Replied.{packed_reply}
use Rattle.run_answers.proofs.RunLaws.{few_codes, within_told}
use Rattle.exports.specs.Plans.{packed_answer}
use Rattle.exports.specs.Rounds.{packed_round}

-- ---- `rimdovek_plan`

-- the number n tells bytes, steps, tallied and rejected of an answer
abbrev pub TellsPlan : Answer → ℕ → Type 0
TellsPlan a n = TellsCounts a.bytes a.steps a.tallied a.rejected n

-- the number n tells that an answer is a refusal, with its number, text and line
abbrev pub TellsBack : Answer → ℕ → Type 0
TellsBack a n = TellsRefusal a.number a.text a.line n

-- The answer of every query that is planned is told whole.
pub planned_told : (x : List ℕ) (t : Option (List ℕ)) (o : List ℕ) → (plan x t o).answer.number ≡ 0 → TellsPlan (plan x t o).answer (packed_answer (plan x t o).answer)
planned_told x t o z = by (plan x t o).answer (plan_within x t o) z
  where
    by : (a : Answer) → Within a → a.number ≡ 0 → TellsPlan a (packed_answer a)
    by a w z = rw z (counts_told a.bytes a.steps a.tallied a.rejected (omega (arith, w.bytes)) (omega (arith, w.steps)) (omega (arith, w.tallied)) (omega (arith, w.rejected)))

-- Every refusal of a query, or of a table beside it, is told whole.
pub refused_told : (x : List ℕ) (t : Option (List ℕ)) (o : List ℕ) → ((plan x t o).answer.number ≡ 0 → ⊥) → TellsBack (plan x t o).answer (packed_answer (plan x t o).answer)
refused_told x t o z = by (plan x t o).answer (plan_within x t o) z
  where
    by : (a : Answer) → Within a → (a.number ≡ 0 → ⊥) → TellsBack a (packed_answer a)
    by a w z = rw (ne_eqb a.number 0 z) (refusal_told a.number a.text a.line (omega (arith, w.number)) (omega (arith, w.text)) (omega (arith, w.line)))

-- ---- `rimdovek_round_costs`

-- the number n tells the atom chosen, which is below 64; 0x100 where the rounds have ended; or a refusal
abbrev pub TellsRound : RoundAnswer → ℕ → Type 0
TellsRound (Chosen i) n = TellsPlain i n × (i < 64)
TellsRound Ended n = TellsPlain 0x100 n
TellsRound (Invalid k t l) n = TellsRefusal k t l n

-- The answer of every round of every text is told whole.
pub round_told : (x : List ℕ) (t : Option (List ℕ)) (round : ℕ) (o : List ℕ) → TellsRound (round_costs x t round o).answer (packed_round (round_costs x t round o).answer)
round_told x t round o = by (round_costs x t round o).answer (round_within x t round o)
  where
    by : (a : RoundAnswer) → RoundWithin a → TellsRound a (packed_round a)
    by (Chosen i) w = (plain_told i (omega arith), w)
    by Ended w = plain_told 0x100 (omega arith)
    by (Invalid k t l) w = refusal_told k t l (omega (arith, w.0)) (omega (arith, w.1.0)) (omega (arith, w.1.1))

-- ---- `rimdovek_run`

-- the number n tells how a run ended and the bytes written, these by their last 32 bits; or a refusal
abbrev pub TellsRun : Outcome → ℕ → Type 0
TellsRun (Refused k x l) n = TellsRefusal k x l n
TellsRun (Ran c tries matches w) n = TellsWritten (status_number c) w n

-- The outcome of every run of any two texts is told so.
pub run_told : (p t : List ℕ) (md : Mode) (A : ℕ) (o : List ℕ) → TellsRun (run p t md A o).outcome (packed_run (run p t md A o).outcome)
run_told p t md A o = by (run p t md A o).outcome (run_within p t md A o)
  where
    by : (a : Outcome) → ((k x l : ℕ) → a ≡ Refused k x l → RefusedWithin k x l) → TellsRun a (packed_run a)
    by (Refused k x l) h = within_told k x l (h k x l refl)
    by (Ran c tries matches w) h = written_told (status_number c) w (few_codes c)

-- ---- `rimdovek_some_match`

-- the number n tells 2 a match, 0 none, 1 spent; or a refusal
abbrev pub TellsReply : Reply → ℕ → Type 0
TellsReply (Rejected k x l) n = TellsRefusal k x l n
TellsReply (Match m) n = TellsPlain 2 n
TellsReply None n = TellsPlain 0 n
TellsReply Exhausted n = TellsPlain 1 n

-- Every reply of the second entry to any two texts is told so.
pub reply_told : (p t : List ℕ) (md : Mode) (A : ℕ) (r : Reply) → Replies p t md A r → TellsReply r (packed_reply r)
reply_told p t md A (Rejected k x l) h = within_told k x l (reply_within p t md A k x l h)
reply_told p t md A (Match m) h = plain_told 2 (omega arith)
reply_told p t md A None h = plain_told 0 (omega arith)
reply_told p t md A Exhausted h = plain_told 1 (omega arith)
