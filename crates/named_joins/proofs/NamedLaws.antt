-- The Joins of a plan, frame by frame, and the tests in turn. Proved from the walk over the plan's sheet.
use Prim.Native.Nat.{ℕ, ◌-◌, ◌≤◌}
use mathlib.Core.Path.{◌≡◌, refl, sym, ◌∙◌, ap}
use mathlib.Core.Bool.{Bool, true, false, ◌||◌}
use mathlib.Core.List.{List, [], ◌∷◌, map}
use native.Mathlib.Omega.{arith}
use lib.Dec.{eqb}
use lib.ListN.{length, get_or, take, drop}
use lib.Seq.{take-nil}
use Rattle.frames.specs.Frames.{frame_length}
use Rattle.frames.specs.Sheet.{frame_at, frames_in}
use Rattle.frames.proofs.SheetLaws.{no_frames, frame_within, first_taken}
use Rattle.modes.specs.Atoms.{Step, Join, ExtractChild, CheckChildEq, CheckEq, CheckEqGlobal, BindGlobal, CopyBinding, Expand, ExtractLitVal, CheckLit, CheckPred, is_join}
use Rattle.modes.specs.Refusing.{is_join_of, has_join}
use Rattle.modes.specs.Running.{Mode}
use Rattle.modes.proofs.Bools.{true_false}
use Rattle.table_tests.specs.StepFrames.{step_of}
use Rattle.table_tests.proofs.StepsRead.{no_join}
use Rattle.table_tests.specs.Tables.{steps_in}
use Rattle.table_tests.specs.Validation.{named_joins}
use Rattle.std.specs.Prelude.{Result, Ok, Err}
use Rattle.std.specs.Result.{result_and}
use Rattle.table_tests.specs.Refusal.{Refusal}
use Rattle.table_tests.specs.Shapes.{verdict}
use Rattle.validation.specs.Plans.{Validated}
use Rattle.named_joins.specs.NamedJoins.{ValidatedWith}

-- ---- a frame

other_step : (a : ℕ) (s : Step) → is_join s ≡ false → is_join_of a s ≡ false
other_step a (Join v k ls) h = true_false refl h
other_step a (ExtractChild v p i) h = refl
other_step a (CheckChildEq p i c) h = refl
other_step a (CheckEq x y) h = refl
other_step a (CheckEqGlobal x g) h = refl
other_step a (BindGlobal v g) h = refl
other_step a (CopyBinding v o) h = refl
other_step a (Expand n cs x) h = refl
other_step a (ExtractLitVal n l) h = refl
other_step a (CheckLit n x) h = refl
other_step a (CheckPred g) h = refl

module _ (f : List ℕ) (a b : ℕ) (is : b ≡ get_or f 0 0) where
  pub joins_other : (b ≡ 0x40 → ⊥) → false ≡ is_join_of a (step_of f)
  joins_other h = sym (other_step a (step_of f) (no_join f b is h))

  pub joins_same : b ≡ 0x40 → (k : ℕ) → k ≡ get_or f 2 0 → eqb k a ≡ is_join_of a (step_of f)
  unfolding step_of
  joins_same h k q = let z : get_or f 0 0 ≡ 0x40 = sym is ∙ h in rw (z, q)

-- ---- the frames in turn: r is the sheet x behind its first frame l, where it has one

no_first : (l : List ℕ) → l ≡ frame_at [] 0 → l ≡ []
no_first l q = q ∙ take-nil (frame_length [])

pub first_within : (x l : List ℕ) → l ≡ frame_at x 0 → length l ≤ length x
first_within [] l q = omega (arith, ap length (no_first l q))
first_within (b ∷ x) l q = omega (arith, frame_within (b ∷ x) 0 (omega arith) l q)

pub seeking_first : (x l : List ℕ) → l ≡ frame_at x 0 → (a : ℕ) (r : List ℕ) → r ≡ take (length x - length l) (drop (length l) x) → has_join a (steps_in (frames_in x)) ≡ has_join a (map step_of (frames_in r))
unfolding steps_in
seeking_first [] l q a r e = let z = no_first l q in let n : r ≡ [] = rw z at e in rw (n, no_frames [] refl)
seeking_first (b ∷ x) l q a r e = rw (e, first_taken (b ∷ x) l (omega arith) q)

-- those before fs are no Join of the atom a
module _ (a : ℕ) (all : List Step) (fs : List (List ℕ)) (is : has_join a all ≡ has_join a (map step_of fs)) where
  pub seeking_end : fs ≡ [] → false ≡ has_join a all
  unfolding has_join
  seeking_end e = sym (is ∙ rw e)

  module _ (f : List ℕ) (gs : List (List ℕ)) (step : fs ≡ f ∷ gs) (b : Bool) (e : b ≡ is_join_of a (step_of f)) where
    here : has_join a all ≡ (b || has_join a (map step_of gs))
    unfolding has_join
    here = is ∙ rw (step, e)

    pub seeking_found : b ≡ true → true ≡ has_join a all
    seeking_found t = sym (here ∙ rw t)

    pub seeking_next : b ≡ false → has_join a all ≡ has_join a (map step_of gs)
    seeking_next t = here ∙ rw t

-- ---- the tests

pub all_passed : (x y : List ℕ) (md : Mode) (r : Result (Unit {0}) Refusal) (G : List ℕ) → Validated x y (Ok tt) G → verdict r ≡ named_joins md (steps_in (frames_in x)) → ValidatedWith x y md r G
all_passed x y md r G p n = record { is = rw (← p.is, n); globals = λ e. p.globals refl }

pub all_refused : (x y : List ℕ) (md : Mode) (f : Refusal) (G : List ℕ) → Validated x y (Err f) G → ValidatedWith x y md (Err f) G
all_refused x y md f G p = record { is = rw (← p.is); globals = λ e. let z : ◌≡◌ {A = ℕ} 0 1 = cc in absurd (omega arith) }

-- those of the plan and the table, then that of the named atom
pub all_tested : (x y : List ℕ) (md : Mode) (v w r : Result (Unit {0}) Refusal) (G : List ℕ) → Validated x y v G → verdict w ≡ named_joins md (steps_in (frames_in x)) → r ≡ result_and v w → ValidatedWith x y md r G
all_tested x y md (Ok tt) w r G p n e = rw e (all_passed x y md w G p n)
all_tested x y md (Err f) w r G p n e = rw e (all_refused x y md f G p)
