-- The premises of the guarantee for an accepted query and an accepted table in shape: `query_given`. Proved from what the readings say of each atom and
-- of each row.
use Prim.Native.Nat.{ℕ, ◌<◌}
use mathlib.Core.Path.{◌≡◌, refl, sym, subst}
use mathlib.Core.Logic.{◌⊎◌, inl, inr}
use mathlib.Core.Bool.{true, ◌||◌}
use mathlib.Core.List.{List, [], ◌∷◌, flat_map, Memᴰ}
use native.Mathlib.Omega.{arith}
use lib.Dec.{T, eqb}
use lib.ListN.{length}
use borrow.Author.Tests.{eqb-true}
use Rattle.running.specs.Counts.{Counts}
use Rattle.running.specs.PlanText.{plan_counts}
use Rattle.running.specs.Text.TheVariants.{Query, Table as TableText}
use Rattle.running.specs.Reading.{Accepted}
use Rattle.running.specs.First.{frames_of}
use Rattle.running.specs.Second.{reading}
use Rattle.running.proofs.Bools.{either}
use Rattle.running.specs.Atoms.{Operand, local, global, wild, local_of, Atom, Plain, Lit, LitBind, Eq, EqGlobal, Pred, Variadic, vars_in, lits_in, is_run}
use Rattle.running.specs.Bound.{is_in}
use Rattle.running.specs.Scheduling.{atom_of}
use Rattle.running.proofs.Lines.{number_in}
use Rattle.running.specs.Matching.{InShapes, GlobalsSet, mentions_seq, any, Given}
use Rattle.running.specs.Items.{Each}
use Rattle.running.specs.StepFrames.{OperandFits, AtomFits}
use Rattle.fitting.specs.QueryPlans.{atoms_of, count_at}
use Rattle.fitting.proofs.QueryPlansLaws.{query_fits}
use Rattle.fitting.proofs.Tame.{atoms_tame}
use Rattle.running.specs.Tables.{table_of}
use Rattle.running.proofs.DistinctRows.{distinct_rows}
use Rattle.running.proofs.TableRows.{proper_rows}
use Rattle.fair_plans.specs.Terms.{line_of}

in_each : (P : ℕ → Type 0) (l : List ℕ) → Each P l → (v : ℕ) → is_in v l ≡ true → P v
unfolding is_in
in_each P [] h v i = absurd (subst T (sym i) tt)
in_each P (u ∷ l) h v i = by (either (eqb v u) (is_in v l) i) (in_each P l h.1 v)
  where
    by : (eqb v u ≡ true) ⊎ (is_in v l ≡ true) → (is_in v l ≡ true → P v) → P v
    by (inl e) k = subst P (sym (eqb-true v u e)) h.0
    by (inr j) k = k j

module _ (n : Counts) where
  operands_below : (cs : List Operand) → Each (OperandFits n) cs → Each (λ v. v < n.variables) (flat_map local_of cs)
  unfolding flat_map
  operands_below [] h = tt
  operands_below (local v ∷ cs) h = (h.0, operands_below cs h.1)
  operands_below (global g ∷ cs) h = operands_below cs h.1
  operands_below (wild ∷ cs) h = absurd h.0

  vars_below : (a : Atom) → AtomFits n a → Each (λ v. v < n.variables) (vars_in a)
  vars_below (Plain v o cs) h = (h.0, operands_below cs h.2.1)
  vars_below (Lit v o x) h = (h.0, tt)
  vars_below (LitBind v o l) h = (h.0, tt)
  vars_below (Eq a b) h = (h.0, (h.1, tt))
  vars_below (EqGlobal a g) h = (h.0, tt)
  vars_below (Pred g ds) h = tt
  vars_below (Variadic v o cs f) h = (h.0, operands_below cs h.2.1)

  lits_below : (a : Atom) → AtomFits n a → Each (λ l. l < n.literals) (lits_in a)
  lits_below (Plain v o cs) h = tt
  lits_below (Lit v o x) h = tt
  lits_below (LitBind v o l) h = (h.2, tt)
  lits_below (Eq a b) h = tt
  lits_below (EqGlobal a g) h = tt
  lits_below (Pred g ds) h = tt
  lits_below (Variadic v o cs f) h = tt

  any_below : (f : Atom → List ℕ) (m : ℕ) → ((a : Atom) → AtomFits n a → Each (λ v. v < m) (f a)) → (qs : List Atom) → Each (AtomFits n) qs → (v : ℕ) → any (λ a. is_in v (f a)) qs ≡ true → v < m
  unfolding any
  any_below f m k [] h v i = absurd (subst T (sym i) tt)
  any_below f m k (a ∷ qs) h v i = by (either (is_in v (f a)) (any (λ a. is_in v (f a)) qs) i) (any_below f m k qs h.1 v)
    where
      by : (is_in v (f a) ≡ true) ⊎ (any (λ a. is_in v (f a)) qs ≡ true) → (any (λ a. is_in v (f a)) qs ≡ true → v < m) → v < m
      by (inl e) r = in_each (λ u. u < m) (f a) (k a h.0) v e
      by (inr j) r = r j

-- no atom that runs has a sequence
no_seqs : (qs : List Atom) → ((a : Atom) → Memᴰ a qs → is_run a ≡ true) → (q : ℕ) → any (mentions_seq q) qs ≡ true → ⊥
unfolding any is_in
no_seqs [] h q i = subst T (sym i) tt
no_seqs (a ∷ qs) h q i = at a (h a (Memᴰ.head refl)) i (no_seqs qs (λ b m. h b (Memᴰ.tail m)) q)
  where
    at : (a : Atom) → is_run a ≡ true → (mentions_seq q a || any (mentions_seq q) qs) ≡ true → (any (mentions_seq q) qs ≡ true → ⊥) → ⊥
    at (Plain v o cs) r i k = k i
    at (Lit v o x) r i k = k i
    at (LitBind v o l) r i k = k i
    at (Eq b c) r i k = k i
    at (EqGlobal b g) r i k = k i
    at (Pred g ds) r i k = subst T (sym r) tt
    at (Variadic v o cs f) r i k = subst T (sym r) tt

-- the premises of the guarantee, for an accepted query of the kinds that run over an accepted table in shape
pub query_given : (x t : List ℕ) (n c m d : ℕ) → reading Query x ≡ Accepted n c → reading TableText t ≡ Accepted m d → ((a : Atom) → Memᴰ a (atoms_of x) → is_run a ≡ true) → InShapes (table_of t) (atoms_of x)
    → ((k : ℕ) → k < length (atoms_of x) → GlobalsSet (table_of t) (atom_of (atoms_of x) k)) → Given (table_of t) (line_of x) (atoms_of x)
query_given x t n c m d ok read run sh gs =
    let w = plan_counts (count_at x 1) (count_at x 2) (count_at x 3) in
    let f = (query_fits x n c ok 0 0 (omega arith) (omega arith)).atoms in
    record {
      proper = proper_rows t m d read;
      distinct = distinct_rows t;
      tame = λ k h. atoms_tame (frames_of x) (atom_of (atoms_of x) k) (number_in (atoms_of x) k h);
      shape = sh;
      globals = gs;
      variables = any_below w vars_in (count_at x 1) (vars_below w) (atoms_of x) f;
      literals = any_below w lits_in (count_at x 3) (lits_below w) (atoms_of x) f;
      sequences = λ q i. absurd (no_seqs (atoms_of x) run q i);
    }
