-- Whether texts are refused depends on neither allowance nor output: a run that is refused says so and writes nothing, and one run
-- that is not says that none is. Proved by cases on the verdict.
use Prim.Native.Nat.{ℕ}
use mathlib.Core.Path.{◌≡◌, refl}
use mathlib.Core.List.{List}
use Rattle.plans.specs.Limits.{Played}
use Rattle.plans.specs.Running.{Mode}
use Rattle.running.specs.Validation.{Verdict, Passed, Invalid, validation_with}
use Rattle.running.specs.Run.{Refused, after_tests, run}

pub invalid_run : (p t : List ℕ) (md : Mode) (k x l : ℕ) → validation_with p t md ≡ Invalid k x l → (A : ℕ) (o : List ℕ) → run p t md A o ≡ record { outcome = Refused k x l; output = o }
unfolding run
invalid_run p t md k x l h A o = rw h

pub not_refused : (p t : List ℕ) (md : Mode) (A : ℕ) (o : List ℕ) → ((k x l : ℕ) → (run p t md A o).outcome ≡ Refused k x l → ⊥) → validation_with p t md ≡ Passed
unfolding run
not_refused p t md A o h = by (validation_with p t md) _ h
  where
    by : (v : Verdict) (r : Played) → ((k x l : ℕ) → (after_tests v r o).outcome ≡ Refused k x l → ⊥) → v ≡ Passed
    by Passed r h = refl
    by (Invalid k x l) r h = absurd (h k x l refl)
