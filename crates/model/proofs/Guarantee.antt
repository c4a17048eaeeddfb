-- From a query to its matches, by any fair choice and in any mode. Proved from the scheduler and the matches of a lowering sequence.
use mathlib.Core.Path.{◌≡◌, sym, ◌∙◌}
use Prim.Native.Nat.{ℕ, ◌<◌, ◌≤◌}
use mathlib.Core.Bool.{true, false}
use mathlib.Core.List.{List, [], map, Memᴰ, flat_map}
use lib.ListN.{length}
use Rattle.model.proofs.TabulateLaws.{tabulate_mem}
use Rattle.model.specs.Atoms.{Atom, is_run, Table}
use Rattle.model.specs.Bound.{Bound, has, blank}
use Rattle.model.proofs.BoundLaws.{has_blank}
use Rattle.model.specs.Scheduling.{State, Chosen, Fair, atom_of, numbers, schedule}
use Rattle.model.specs.Reading.{bound_first}
use Rattle.model.specs.Running.{Mode, Env, runs, trace, founds, attempts}
use Rattle.model.specs.Matching.{Line, Counts, line, Given, Exact}
use Rattle.model.proofs.BoundFirst.{first_alike, bound_before_read}
use Rattle.model.proofs.Scheduled.{Ordered, ordered, number_mem, reached}
use Rattle.model.specs.Refusing.{all_runnable}
use Rattle.model.proofs.Accepted.{plan_runnable}
use Rattle.model.proofs.Lines.{AllOf}
use Rattle.model.proofs.Exactness.{Blank, exact}
use Rattle.model.proofs.Limited.{ran, Guaranteed, guaranteed}

module _ (qs : List Atom) {X : Type 0} (choose : X → State → Chosen X) (x : X) (fair : Fair (atom_of qs) (numbers qs) choose) where
  -- the order in which the atoms are lowered
  pub made : Ordered (atom_of qs) (numbers qs) (schedule qs choose x)
  made = ordered (atom_of qs) (numbers qs) (schedule qs choose x) (reached qs choose x fair)

  -- the plan, whatever its atoms, is not refused for 9: where nothing is bound yet
  pub schedule_bound_first : (B R : Bound) → ((v : ℕ) → has B v ≡ false) → bound_first B R (schedule qs choose x).steps ≡ true
  schedule_bound_first B R h = first_alike (schedule qs choose x).steps B blank R (λ v. h v ∙ sym (has_blank v)) ∙ bound_before_read made.lowered R

  -- every atom is lowered
  abbrev pub AllLowered : Type 0
  AllLowered = (i : ℕ) → i < length qs → has (schedule qs choose x).used i ≡ true

  pub known_below : (k : ℕ) → Memᴰ k made.order → k < length qs
  known_below k m = let r = tabulate_mem (length qs) (λ j. j) k (made.known k m) in rw r.is r.below

  pub all_of : AllLowered → AllOf qs made.order
  all_of all = record { every = λ k h. made.all k (all k h); only = known_below }

  -- of the kinds that run, not for 10
  pub schedule_runnable : ((a : Atom) → Memᴰ a qs → is_run a ≡ true) → all_runnable (schedule qs choose x).steps ≡ true
  schedule_runnable h = plan_runnable made.lowered (λ k m. h (atom_of qs k) (number_mem qs k (made.known k m)))

  module _ (all : AllLowered) (tb : Table) (n : Counts) (g : Given tb n qs) (σ : Env) (b : Blank σ) where
    -- the guarantee: the run finds the matches, each once
    pub schedule_exact : (md : Mode) → Exact tb md n qs (map (line n) (runs tb md (schedule qs choose x).steps σ))
    schedule_exact md = exact tb md n qs g made.lowered (all_of all) σ b

    pub schedule_guaranteed : (md : Mode) (write : Line → List ℕ) (A : ℕ) (o : List ℕ) → attempts (trace tb md (schedule qs choose x).steps σ) ≤ A
        → length (flat_map write (map (line n) (founds (trace tb md (schedule qs choose x).steps σ)))) ≤ length o
        → Guaranteed tb md n qs write (attempts (trace tb md (schedule qs choose x).steps σ)) o (ran write n tb md (schedule qs choose x).steps σ A o)
    schedule_guaranteed md = guaranteed tb md n qs g made.lowered (all_of all) σ b
