-- An eager round, and the atom chosen, lead the scheduler on. Proved from what each of them does.
use Prim.Native.Nat.{ℕ, ◌+◌, ◌<◌}
use mathlib.Core.Path.{◌≡◌, refl, sym, ◌∙◌, ap, subst}
use mathlib.Core.Bool.{Bool, true, false}
use mathlib.Core.Option.{Option, none, some}
use mathlib.Core.List.{List, Memᴰ}
use native.Mathlib.Omega.{arith}
use lib.Dec.{T}
use lib.ListN.{length, get_or, set}
use Rattle.binding.specs.Sheet.{frame_at}
use Rattle.binding.specs.Atoms.{Atom, Plain, Lit, LitBind, Eq, EqGlobal, Pred, Variadic}
use Rattle.binding.specs.Bound.{Bound, has, add, bound_most}
use Rattle.binding.specs.Lowering.{Emitted, lower}
use Rattle.binding.specs.Scheduling.{scans, emit_at, atom_of, numbers}
use Rattle.binding.proofs.Scheduled.{unlowered_lt}
use Rattle.binding.specs.QueryAtoms.{atom_of_frame}
use Rattle.binding.specs.Emitters.{record_atom}
use Rattle.recording.specs.Changed.{changed_from, record_numbers}
use Rattle.recording.proofs.ChangedLaws.{changed_recorded}
use Rattle.lowering.specs.AtomLines.{AtomLine, lowers, bound_behind, Lowers}
use Rattle.passes.specs.Eager.{Went, LoweredEager, Lined, Located, Ready, sheet_atoms}
use Rattle.passes.proofs.LocatedLaws.{place_sized, place_within, number_among, line_ready}
use Rattle.passes.proofs.EagerLaws.{went_one}
use Rattle.advancing.specs.Advancing.{emitters_of, Advances, Takes, TakesNext}
use Rattle.advancing.specs.declared.advance.Scheduler.{Scheduler}

-- ---- an eager round

module _ (x : List ℕ) (d e : Scheduler) where
  pub advances : (from : List ℕ) (n : ℕ) (l : List ℕ) → Located x from n → LoweredEager x d.used d.bound d.order d.count e.used e.bound e.order e.count
      → l ≡ changed_from d.before e.used 0 n → emitters_of e ≡ record_numbers (sheet_atoms x) l (emitters_of d) → length e.emitters ≡ bound_most → Advances x d e
  advances from n l z w c q s = record { went = w; emitters = q ∙ rw c (changed_recorded d.before e.used (sheet_atoms x) 0 n (emitters_of d) (omega (arith, z.count))); size = s }

-- ---- the atom chosen

-- what scans lowers
scans_lowers : (B : Bound) (k : ℕ) (a : Atom) → scans a ≡ true → lowers (lower B k a) ≡ true
unfolding lower
scans_lowers B k (Plain n o cs) h = refl
scans_lowers B k (Lit n o x) h = refl
scans_lowers B k (LitBind n o l) h = refl
scans_lowers B k (Eq a b) h = absurd (subst T (sym h) tt)
scans_lowers B k (EqGlobal a g) h = absurd (subst T (sym h) tt)
scans_lowers B k (Pred g ds) h = absurd (subst T (sym h) tt)
scans_lowers B k (Variadic n o cs f) h = refl

module _ (f : List ℕ) (i : ℕ) (U B : Bound) (O : List ℕ) (c : ℕ) (scan : scans (atom_of_frame f) ≡ true) (new : has U i ≡ false) (below : i < length U) (room : c < length O) where
  pub takes : (t : Bool) (U' C : Bound) → Lowers B (atom_of_frame f) t C → U' ≡ add U i → Takes f i U B O c U' C (set O c i) (c + 1)
  takes t U' C l v = record { went = λ at js e m. by at js e m (lower B i (atom_of_frame f)) refl; used = v }
    where
      by : (at : ℕ → Atom) (js : List ℕ) → at i ≡ atom_of_frame f → Memᴰ i js → (o : Option Emitted) → lower B i (atom_of_frame f) ≡ o → Went at js (emit_at at js i) U B O c U' C (set O c i) (c + 1)
      by at js e m none p = absurd (subst T (sym (ap lowers (sym p) ∙ scans_lowers B i (atom_of_frame f) scan)) tt)
      by at js e m (some y) p = went_one at js (emit_at at js i) i U B O c U' C y (rw e p) (ap (bound_behind B) (sym p) ∙ l.bound i) v new m below room l.size (λ ss. rw (e, p))

-- ---- the atom chosen, by its number

module _ (x from : List ℕ) (n i : ℕ) (U B : Bound) (O : List ℕ) (c : ℕ) (z : Located x from n) (h : i < n) (scan : scans (atom_of (sheet_atoms x) i) ≡ true) (new : has U i ≡ false) (y : Ready x U B O c) where
  pub next_sized : (k : ℕ) → k ≡ i → k + bound_most < length from
  next_sized k q = place_sized x from n z k (rw q h)

  pub next_within : (k : ℕ) → k ≡ i → Lined x from k
  next_within k q = place_within x from n z k (rw q h)

  pub next_below : i < length U
  next_below = omega (arith, y.used, z.few)

  pub next_room : c < length O
  next_room = omega (arith, unlowered_lt U i (numbers (sheet_atoms x)) new (number_among x from n z i h), y.room, y.order)

  module _ (k : ℕ) (v : k ≡ i) (s : List ℕ) (l : s ≡ frame_at x (get_or from k 0)) where
    line : s ≡ frame_at x (get_or from i 0)
    line = rw v at l

    pub next_line : AtomLine s
    next_line = line_ready x from n z i h s line

    pub next_scans : scans (atom_of_frame s) ≡ true
    next_scans = rw (line, ← z.is i h) scan

    -- the scheduler behind it
    module _ (d e : Scheduler) (hU : d.used ≡ U) (hB : d.bound ≡ B) (hO : d.order ≡ O) (hc : d.count ≡ c) where
      pub takes_next : Takes s i U B O c e.used e.bound e.order e.count → emitters_of e ≡ record_atom (emitters_of d) i (atom_of_frame s) → e.before ≡ e.used → length e.emitters ≡ bound_most → TakesNext x i d e
      takes_next t q g m =
          let a : atom_of (sheet_atoms x) i ≡ atom_of_frame s = z.is i h ∙ ap (λ (l : List ℕ). atom_of_frame l) (sym line) in
          record {
            went = rw (hU, hB, hO, hc) (t.went (atom_of (sheet_atoms x)) (numbers (sheet_atoms x)) a (number_among x from n z i h));
            used = rw hU t.used;
            emitters = q ∙ ap (record_atom (emitters_of d) i) (sym a);
            before = g;
            size = m;
          }
