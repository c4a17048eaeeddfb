-- The second entry: what it answers is a match, that none exists, or spent, each exactly as document 01 says. Proved by induction over the trace.
use mathlib.Core.Path.{◌≡◌, refl, sym, ap, ◌∙◌, subst}
use Prim.Native.Nat.{ℕ, zero, suc, ◌+◌, ◌<◌, ◌≤◌, ◌-◌}
use native.Mathlib.Omega.{arith}
use mathlib.Core.Bool.{Bool, true, false}
use mathlib.Core.List.Memᴰ
use mathlib.Core.List.{List, [], ◌∷◌, map, Memᴰ}
use lib.Dec.{leb, ltb}
use lib.ListN.{length}
use borrow.Author.Tests.{leb-true, leb-false, ltb-false}
use Rattle.set_model.specs.Choose.{pick}
use Rattle.set_model.proofs.ChooseLaws.{pick_elim}
use Rattle.model.specs.Atoms.{Atom, Step, Table}
use Rattle.model.specs.Running.{Mode, Env, runs, Event, attempt, found, trace, founds, attempts}
use Rattle.model.specs.Matching.{Line, Counts, line, IsMatch, Exact}
use Rattle.model.specs.Limits.{Spent, Full, Tally, Played, played, tried, matched, overwrite, play, Answer, SomeMatch, NoMatch, OutOfTries, tries_to_first, Answers, some_match, no_match, out_of_tries, first_match}
use Rattle.model.proofs.Limited.{over_length, wrote}
use Rattle.model.proofs.Traces.{founds_trace}

-- a run that stops at its first match answers so
pub first_answers : (A : ℕ) (es : List Event) → Answers A es (first_match A es)
unfolding first_match founds attempts tries_to_first
first_answers A [] = no_match refl (omega arith)
first_answers A (found σ ∷ es) = some_match (Memᴰ.head refl) (omega arith)
first_answers zero (attempt ∷ es) = out_of_tries (omega arith)
first_answers (suc A) (attempt ∷ es) = later A es (first_match A es) (first_answers A es)
  where
    later : (A : ℕ) (es : List Event) (r : Answer) → Answers A es r → Answers (suc A) (attempt ∷ es) r
    later A es r (some_match m h) = some_match m (omega arith)
    later A es r (no_match e h) = no_match e (omega arith)
    later A es r (out_of_tries h) = out_of_tries (omega arith)

first_of_none : (es : List Event) → founds es ≡ [] → tries_to_first es ≡ attempts es
unfolding founds attempts tries_to_first
first_of_none [] h = refl
first_of_none (attempt ∷ es) h = ap suc (first_of_none es h)
first_of_none (found σ ∷ es) h = let z : ◌≡◌ {A = ℕ} 0 1 = cc in absurd (omega arith)

-- which of the three it is follows from the run: only the match is free
pub data SameKind : Answer → Answer → Type 0 where
  both_match : {σ τ : Env} → SameKind (SomeMatch σ) (SomeMatch τ)
  both_none : SameKind NoMatch NoMatch
  both_spent : SameKind OutOfTries OutOfTries

pub one_kind : (A : ℕ) (es : List Event) (r q : Answer) → Answers A es r → Answers A es q → SameKind r q
one_kind A es r q (some_match m h) (some_match n k) = both_match
one_kind A es r q (some_match {σ} m h) (no_match e k) = absurd (Memᴰ.not-nil (subst (λ (l : List Env). Memᴰ σ l) e m))
one_kind A es r q (some_match m h) (out_of_tries k) = absurd (omega arith)
one_kind A es r q (no_match e h) (some_match {σ} n k) = absurd (Memᴰ.not-nil (subst (λ (l : List Env). Memᴰ σ l) e n))
one_kind A es r q (no_match e h) (no_match f k) = both_none
one_kind A es r q (no_match e h) (out_of_tries k) = absurd (omega (arith, first_of_none es e))
one_kind A es r q (out_of_tries h) (some_match n k) = absurd (omega arith)
one_kind A es r q (out_of_tries h) (no_match f k) = absurd (omega (arith, first_of_none es f))
one_kind A es r q (out_of_tries h) (out_of_tries k) = both_spent

-- spent is said exactly if "the full run is spent without a match", whatever its output
module _ (text : Env → List ℕ) where
  pub record SpentFirst (r : Played) (s : Tally) : Type 0 where
    pub status : r.status ≡ Spent
    pub matches : r.tally.matches ≡ s.matches

  pub spent_to : (A : ℕ) (es : List Event) (s : Tally) (o : List ℕ) → s.tries ≤ A → A < s.tries + tries_to_first es → SpentFirst (play text A es s o) s
  unfolding play tries_to_first
  spent_to A [] s o t h = absurd (omega arith)
  spent_to A (attempt ∷ es) s o t h = pick_elim (λ r. SpentFirst r s) (leb A s.tries) (played Spent s o) (play text A es (tried s) o)
      (λ b. record { status = refl; matches = refl })
      (λ b. let k = leb-false A s.tries b in let r = spent_to A es (tried s) o (omega arith) (omega arith) in record { status = r.status; matches = r.matches })
  spent_to A (found σ ∷ es) s o t h = absurd (omega arith)

  pub spent_back : (A : ℕ) (es : List Event) (s : Tally) (o : List ℕ) → s.written ≤ length o → SpentFirst (play text A es s o) s → A < s.tries + tries_to_first es
  unfolding play tries_to_first
  spent_back A [] s o w r = let e = r.status in let z : ◌≡◌ {A = ℕ} 0 1 = cc in absurd (omega arith)
  spent_back A (attempt ∷ es) s o w r = go (leb A s.tries) refl r (λ q. spent_back A es (tried s) o w q)
    where
      go : (b : Bool) → leb A s.tries ≡ b → SpentFirst (pick b (played Spent s o) (play text A es (tried s) o)) s → (SpentFirst (play text A es (tried s) o) (tried s) → A < suc s.tries + tries_to_first es) → A < s.tries + suc (tries_to_first es)
      go true b q k = omega (arith, leb-true A s.tries b)
      go false b q k = omega (arith, k (record { status = q.status; matches = q.matches }))
  spent_back A (found σ ∷ es) s o w r = go (ltb (length o - s.written) (length (text σ))) refl r
    where
      go : (b : Bool) → ltb (length o - s.written) (length (text σ)) ≡ b → SpentFirst (pick b (played Full s o) (play text A es (matched s (length (text σ))) (overwrite o s.written (text σ)))) s → A < s.tries + 0
      go true b q = let e = q.status in let z : ◌≡◌ {A = ℕ} 0 1 = cc in absurd (omega arith)
      go false b q =
          let k = ltb-false (length o - s.written) (length (text σ)) b in
          let v = wrote text A es (matched s (length (text σ))) (overwrite o s.written (text σ)) (omega (arith, over_length o (text σ) s.written (omega arith))) in
          absurd (omega (arith, v.matches, q.matches))

-- where the lines are the matches, "none exactly if none exists and the run ended", and a match answered is one
module _ (tb : Table) (md : Mode) (n : Counts) (qs : List Atom) (ss : List Step) (σ : Env) (x : Exact tb md n qs (map (line n) (runs tb md ss σ))) (A : ℕ) where
  pub record NoneExists : Type 0 where
    pub none_holds : (y : Line) → IsMatch tb md n qs y → ⊥
    pub ended : attempts (trace tb md ss σ) ≤ A

  pub none_to : Answers A (trace tb md ss σ) NoMatch → NoneExists
  none_to (no_match e h) = record {
    none_holds = λ y i. Memᴰ.not-nil (subst (λ (l : List Env). Memᴰ y (map (line n) l)) (sym (founds_trace tb md ss σ) ∙ e) (x.complete y i));
    ended = h;
  }

  pub none_back : NoneExists → Answers A (trace tb md ss σ) NoMatch
  none_back h = no_match (founds_trace tb md ss σ ∙ empty (runs tb md ss σ) refl) h.ended
    where
      empty : (l : List Env) → runs tb md ss σ ≡ l → l ≡ []
      empty [] e = refl
      empty (τ ∷ l) e = absurd (h.none_holds (line n τ) (x.sound (line n τ) (subst (λ (k : List Env). Memᴰ (line n τ) (map (line n) k)) (sym e) (Memᴰ.head refl))))

  pub some_is : (τ : Env) → Answers A (trace tb md ss σ) (SomeMatch τ) → IsMatch tb md n qs (line n τ)
  some_is τ (some_match i h) = x.sound (line n τ) (Memᴰ.map (line n) (subst (λ (l : List Env). Memᴰ τ l) (founds_trace tb md ss σ) i))
