-- The second entry beside the full run: it has an answer, only the match is free, and spent is said exactly where "the full run is spent
-- without a match". Proved from the trace.
use Prim.Native.Nat.{ℕ, ◌+◌, ◌<◌}
use mathlib.Core.Path.{◌≡◌, refl, sym, ◌∙◌}
use mathlib.Core.List.{List, [], ◌∷◌, flat_map}
use native.Mathlib.Omega.{arith}
use native.Mathlib.Nat.{zero-add}
use lib.ListN.{length}
use Rattle.plans.specs.Running.{Mode, Env, Event}
use Rattle.plans.specs.Limits.{Spent, no_tally, play, Answer, OutOfTries, tries_to_first, Answers, some_match, no_match, out_of_tries, first_match}
use Rattle.plans.proofs.Limited.{wrote, bounded}
use Rattle.plans.proofs.Answered.{first_answers, spent_to, spent_back}
use Rattle.running.specs.Validation.{Verdict, Passed, Invalid, validation_with}
use Rattle.running.specs.Run.{events, match_line, line_text, Ran, ran, after_tests, run, Reply, Rejected, Exhausted, replied, Replies, rejects, answers}

-- a run that stops at its first match replies so
abbrev first_reply : Verdict → List ℕ → Answer → Reply
first_reply (Invalid k x l) p a = Rejected k x l
first_reply Passed p a = replied p a

pub first_replies : (p t : List ℕ) (md : Mode) (A : ℕ) → Replies p t md A (first_reply (validation_with p t md) p (first_match A (events p t md)))
first_replies p t md A = by (validation_with p t md) refl
  where
    by : (v : Verdict) → validation_with p t md ≡ v → Replies p t md A (first_reply v p (first_match A (events p t md)))
    by (Invalid k x l) h = rejects k x l h refl
    by Passed h = answers (first_match A (events p t md)) h (first_answers A (events p t md)) refl

-- a run that is spent without a match has written nothing
spent_run : (text : Env → List ℕ) (A : ℕ) (es : List Event) (o : List ℕ) → A < tries_to_first es → (ran (play text A es no_tally o)).outcome ≡ Ran Spent A 0 0
unfolding flat_map
spent_run text A es o h =
    let s = spent_to text A es no_tally o (omega arith) (omega arith) in
    let w = wrote text A es no_tally o (omega arith) in
    let b = bounded text A (length o) es no_tally o (omega arith) (omega arith) refl in
    rw (s.status, b.spent s.status, s.matches, w.written ∙ nothing w.lines (sym (zero-add (length w.lines)) ∙ sym w.matches ∙ s.matches))
  where
    nothing : (l : List Env) → length l ≡ 0 → 0 + length (flat_map text l) ≡ 0
    nothing [] e = refl
    nothing (σ ∷ l) e = absurd (omega arith)

module _ (p t : List ℕ) (md : Mode) (A : ℕ) where
  spent_answer : (a : Answer) → Answers A (events p t md) a → Exhausted ≡ replied p a → A < tries_to_first (events p t md)
  spent_answer a (some_match m h) e = let z : ◌≡◌ {A = ℕ} 0 1 = cc in absurd (omega arith)
  spent_answer a (no_match n h) e = let z : ◌≡◌ {A = ℕ} 0 1 = cc in absurd (omega arith)
  spent_answer a (out_of_tries h) e = h

  pub exhausted_to : Replies p t md A Exhausted → (o : List ℕ) → (run p t md A o).outcome ≡ Ran Spent A 0 0
  unfolding run
  exhausted_to (rejects k x l h e) o = let z : ◌≡◌ {A = ℕ} 0 1 = cc in absurd (omega arith)
  exhausted_to (answers a h w e) o = rw h (spent_run (λ σ. line_text (match_line p σ)) A (events p t md) o (spent_answer a w e))

  pub exhausted_back : (o : List ℕ) (n w : ℕ) → (run p t md A o).outcome ≡ Ran Spent n 0 w → Replies p t md A Exhausted
  unfolding run
  exhausted_back o n w h = by (validation_with p t md) refl h
    where
      text : Env → List ℕ
      text = λ σ. line_text (match_line p σ)

      by : (v : Verdict) → validation_with p t md ≡ v → (after_tests v (play text A (events p t md) no_tally o) o).outcome ≡ Ran Spent n 0 w → Replies p t md A Exhausted
      by (Invalid k x l) q h = let z : ◌≡◌ {A = ℕ} 0 1 = cc in absurd (omega arith)
      by Passed q h =
          let s : (play text A (events p t md) no_tally o).status ≡ Spent = cc in
          let m : (play text A (events p t md) no_tally o).tally.matches ≡ 0 = cc in
          answers OutOfTries q (out_of_tries (omega (arith, spent_back text A (events p t md) no_tally o (omega arith) (record { status = s; matches = m })))) refl
