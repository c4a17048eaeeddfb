-- A query of the kinds that run, all of whose equalities its plan lowers, has no Eq "with both sides finally unbound". Proved from what the scheduler
-- leaves unlowered.
use Prim.Native.Nat.{ℕ}
use mathlib.Core.Path.{◌≡◌, sym, ◌∙◌, ap, subst}
use mathlib.Core.Bool.{true}
use mathlib.Core.List.Memᴰ
use mathlib.Core.List.{List, Memᴰ}
use lib.Dec.{T}
use Rattle.running.proofs.Bools.{true_false}
use Rattle.running.specs.Atoms.{Atom, Plain, Lit, LitBind, Eq, EqGlobal, Pred, Variadic, deps_of, is_run}
use Rattle.running.proofs.Scheduled.{mem_at}
use Rattle.running.specs.Waiting.{is_eq, Unbound, unbound_eq}
use Rattle.running.proofs.Unlowered.{never_lowered}
use Rattle.fitting.specs.QueryPlans.{atoms_of}
use Rattle.fair_plans.specs.Terms.{EqualitiesLowered, Runs}

no_deps : (a : Atom) → is_run a ≡ true → (d : ℕ) → Memᴰ d (deps_of a) → ⊥
no_deps (Plain n o cs) r d m = Memᴰ.not-nil m
no_deps (Lit n o x) r d m = Memᴰ.not-nil m
no_deps (LitBind n o l) r d m = Memᴰ.not-nil m
no_deps (Eq a b) r d m = Memᴰ.not-nil m
no_deps (EqGlobal a g) r d m = Memᴰ.not-nil m
no_deps (Pred g ds) r d m = subst T (sym r) tt
no_deps (Variadic n o cs f) r d m = subst T (sym r) tt

pub equalities_lowered : (x p : List ℕ) → ((a : Atom) → Memᴰ a (atoms_of x) → is_run a ≡ true) → EqualitiesLowered x p → Runs x
equalities_lowered x p run e = record {
  kinds = run;
  lowered = λ a m u. let q = mem_at (atoms_of x) a m in
      true_false (e.all q.place q.below (ap is_eq (sym q.is) ∙ u.is))
      ((never_lowered (atoms_of x) e.by.choose e.by.start e.by.fair (λ b i d n. absurd (no_deps b (run b i) d n)) q.place q.below).back (unbound_eq (subst (Unbound (atoms_of x)) q.is u)));
}
