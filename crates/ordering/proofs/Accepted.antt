-- What the reading gives of an accepted query, as the code of the planner asks for it: its atoms' frames, their items, and the settings.
-- Proved from the tests that each frame passed.
use Rattle.std.specs.Prelude.{Some}
use Prim.Native.Nat.{ℕ, zero, suc, ◌*◌, ◌<◌, ◌≤◌}
use mathlib.Core.Path.{◌≡◌, refl, sym, ◌∙◌}
use mathlib.Core.Bool.{Bool, true, false}
use mathlib.Core.List.{List, [], ◌∷◌}
use native.Mathlib.Omega.{arith}
use lib.ListN.{length, get_or}
use borrow.Author.Tests.{leb-true, eqb-true}
use lib.Dec.{eqb}
use Rattle.query.specs.Choose.{pick}
use Rattle.query.proofs.ChooseLaws.{both_hold}
use Rattle.query.specs.Digits.{short_at}
use Rattle.query.specs.Limits.{atoms_most, items_most, k_most, bootstrap_most}
use Rattle.query.specs.Fields.{field_passes, field_fits, no_counts}
use Rattle.query.specs.Kinds.{kinds, kind_at, items_of}
use Rattle.query.specs.Frames.{kind_of, frame_passes}
use Rattle.query.specs.Faults.{is_atom}
use Rattle.query.specs.First.{frames_of}
use Rattle.query.specs.Counts.{Counts}
use Rattle.query.specs.Field.{Field}
use Rattle.query.specs.Test.TheVariants.{Limits}
use Rattle.query.specs.Text.TheVariants.{Query}
use Rattle.query.specs.Reading.{Accepted}
use Rattle.query.specs.Keys.{begins, find, is_found}
use Rattle.query.specs.Second.{counts_of, reading}
use Rattle.memo_entries.proofs.Passes.{frame_field}
use Rattle.memo_entries.proofs.Whole.{accepted, query_within}
use Rattle.memo_entries.proofs.Lookups.{find_some}
use Rattle.query.specs.SamplerConfig.{SamplerConfig}
use Rattle.query.specs.Statistics.{sampled_of, settings}
use Rattle.query.specs.Atoms.{Atom, Plain, Lit, LitBind, Eq, EqGlobal, Pred, Variadic}
use Rattle.query.specs.Bound.{blank}
use Rattle.query.specs.Scheduling.{unlowered, numbers}
use Rattle.memo_entries.specs.QueryAtoms.{atom_frames}
use Rattle.memo_entries.specs.Choice.{rounds, remembered}
use Rattle.query.specs.Items.{Each}
use Rattle.memo_entries.specs.PlanText.{plan_counts}
use Rattle.memo_entries.specs.StepFrames.{AtomFits}
use Rattle.behind.specs.AtomLines.{AtomLine}
use Rattle.placing.proofs.LocatedPlaces.{frames_length}
use Rattle.behind.proofs.AtomLaws.{by_kind}
use Rattle.placing.proofs.AcceptedLaws.{atom_line}
use Rattle.memo_entries.proofs.AtomFrames.{Good}
use Rattle.memo_entries.specs.QueryPlans.{atoms_of, count_at}
use Rattle.memo_entries.proofs.QueryPlansLaws.{good, atoms_number, query_fits}
use Rattle.memo_entries.proofs.Remembered.{FewOperands, FewKeys, rounds_items, rounds_few}

-- ---- the frames of atoms among frames

-- the k-th is an atom's, and has what every frame has
atom_frame_lem : (P : List ℕ → Type 0) (fs : List (List ℕ)) → Each P fs → (k : ℕ) → k < length (atom_frames fs) → (is_atom (get_or (get_or (atom_frames fs) k []) 0 0) ≡ true) × P (get_or (atom_frames fs) k [])
unfolding atom_frames
atom_frame_lem P [] h k l = absurd (omega arith)
atom_frame_lem P (f ∷ fs) h k l = by (is_atom (get_or f 0 0)) refl k l (atom_frame_lem P fs h.1)
  where
    by : (t : Bool) → is_atom (get_or f 0 0) ≡ t → (k : ℕ) → k < length (pick t (f ∷ atom_frames fs) (atom_frames fs)) → ((j : ℕ) → j < length (atom_frames fs) → (is_atom (get_or (get_or (atom_frames fs) j []) 0 0) ≡ true) × P (get_or (atom_frames fs) j []))
        → (is_atom (get_or (get_or (pick t (f ∷ atom_frames fs) (atom_frames fs)) k []) 0 0) ≡ true) × P (get_or (pick t (f ∷ atom_frames fs) (atom_frames fs)) k [])
    by true e zero l r = (e, h.0)
    by true e (suc j) l r = r j (omega arith)
    by false e j l r = r j l

-- "items 16": n is the last of the fields
items_few : (f : List ℕ) → is_atom (get_or f 0 0) ≡ true → frame_passes (field_passes Limits no_counts) f ≡ true → items_of (kind_of f) f ≤ items_most
unfolding kinds kind_at field_passes field_fits
items_few = by_kind (λ f. frame_passes (field_passes Limits no_counts) f ≡ true → items_of (kind_of f) f ≤ items_most)
    (λ r h. leb-true _ _ (frame_field limits (0x01 ∷ r) h 2 (omega arith))) (λ r h. omega arith) (λ r h. omega arith) (λ r h. omega arith) (λ r h. omega arith)
    (λ r h. leb-true _ _ (frame_field limits (0x06 ∷ r) h 1 (omega arith))) (λ r h. leb-true _ _ (frame_field limits (0x07 ∷ r) h 2 (omega arith)))
    (λ r h. leb-true _ _ (frame_field limits (0x08 ∷ r) h 3 (omega arith))) (λ r h. leb-true _ _ (frame_field limits (0x09 ∷ r) h 3 (omega arith)))
    (λ r h. leb-true _ _ (frame_field limits (0x0a ∷ r) h 4 (omega arith))) (λ r h. leb-true _ _ (frame_field limits (0x0b ∷ r) h 2 (omega arith)))
    (λ r h. leb-true _ _ (frame_field limits (0x0c ∷ r) h 3 (omega arith))) (λ r h. leb-true _ _ (frame_field limits (0x0d ∷ r) h 2 (omega arith)))
    (λ r h. leb-true _ _ (frame_field limits (0x0e ∷ r) h 3 (omega arith)))
  where
    limits : Field → List ℕ → ℕ → Bool
    limits = field_passes Limits no_counts

-- what an atom within its limits has of operands
operands_few : (n : Counts) (a : Atom) → AtomFits n a → FewOperands a
operands_few n (Plain v o cs) h = h.2.0
operands_few n (Lit v o x) h = omega arith
operands_few n (LitBind v o l) h = omega arith
operands_few n (Eq a b) h = omega arith
operands_few n (EqGlobal a g) h = omega arith
operands_few n (Pred g ds) h = omega arith
operands_few n (Variadic v o cs f) h = h.2.0

each_few : (n : Counts) (qs : List Atom) → Each (AtomFits n) qs → Each FewOperands qs
each_few n [] h = tt
each_few n (a ∷ qs) h = (operands_few n a h.0, each_few n qs h.1)

-- ---- the settings

-- "20 k bootstrap(2) cv(8)", "k 64, bootstrap 256"
pub record Small (cfg : SamplerConfig) : Type 0 where
  pub draws : cfg.k ≤ k_most
  pub rounds : cfg.bootstrap ≤ bootstrap_most

settings_small : (f : List ℕ) (cfg : SamplerConfig) → sampled_of f ≡ Some cfg → begins (0x20 ∷ []) f ≡ true → frame_passes (field_passes Limits no_counts) f ≡ true → Small cfg
unfolding begins kinds kind_at field_passes field_fits
settings_small [] cfg e b p = let z : ◌≡◌ {A = ℕ} 0 1 = cc in absurd (omega arith)
settings_small (t ∷ f) cfg e b p =
    let z : t ≡ 0x20 = sym (eqb-true 0x20 t (both_hold (eqb 0x20 t) true b).0) in
    let q : frame_passes (field_passes Limits no_counts) (0x20 ∷ f) ≡ true = rw z at p in
    let k : get_or f 0 0 ≡ cfg.k = cc in
    let m : short_at f 1 ≡ cfg.bootstrap = cc in
    record { draws = rw (← k) (leb-true _ _ (frame_field (field_passes Limits no_counts) (0x20 ∷ f) q 0 (omega arith))); rounds = rw (← m) (leb-true _ _ (frame_field (field_passes Limits no_counts) (0x20 ∷ f) q 1 (omega arith))) }

found : (f : List ℕ) (cfg : SamplerConfig) → sampled_of f ≡ Some cfg → is_found f ≡ true
found [] cfg e = let z : ◌≡◌ {A = ℕ} 0 1 = cc in absurd (omega arith)
found (t ∷ f) cfg e = refl

-- ---- an accepted query

module _ (x : List ℕ) (n c : ℕ) (ok : reading Query x ≡ Accepted n c) where
  pub frames_number : length (atom_frames (frames_of x)) ≡ c
  frames_number = sym (frames_length (frames_of x)) ∙ atoms_number x n c ok

  pub frames_few : length (atom_frames (frames_of x)) ≤ atoms_most
  frames_few = rw frames_number (query_within x n c ok).atoms

  pub atom_lines : (k : ℕ) → k < length (atom_frames (frames_of x)) → AtomLine (get_or (atom_frames (frames_of x)) k [])
  atom_lines k h =
      let g = atom_frame_lem (Good (counts_of Query x c)) (frames_of x) (good x n c ok) k h in
      atom_line (counts_of Query x c) (get_or (atom_frames (frames_of x)) k []) g.0 (query_within x n c ok).header.variables g.1.range

  pub atom_items : (k : ℕ) → k < length (atom_frames (frames_of x)) → items_of (kind_of (get_or (atom_frames (frames_of x)) k [])) (get_or (atom_frames (frames_of x)) k []) ≤ items_most
  atom_items k h = let g = atom_frame_lem (Good (counts_of Query x c)) (frames_of x) (good x n c ok) k h in items_few (get_or (atom_frames (frames_of x)) k []) g.0 g.1.limits

  pub atom_operands : Each FewOperands (atoms_of x)
  atom_operands = each_few (plan_counts (count_at x 1) (count_at x 2) (count_at x 3)) (atoms_of x) (query_fits x n c ok 0 0 (omega arith) (omega arith)).atoms

  -- so the memo has a key for each item of each atom at most, whatever is given beside the atoms
  pub rounds_memo : (fs : List (List ℕ)) (f : ℕ) → length (rounds fs (atoms_of x) f).memory.tally.memo ≤ items_most * length (atoms_of x)
  rounds_memo fs f = rounds_items fs (atoms_of x) f atom_operands

  -- and the memo and the tallies stay small, whatever the costs, after any number of rounds
  pub rounds_keys : (fs : List (List ℕ)) (f : ℕ) → FewKeys (rounds fs (atoms_of x) f).memory.tally
  rounds_keys fs f = rounds_few fs (atoms_of x) f (rw (atoms_number x n c ok) (query_within x n c ok).atoms) atom_operands

  pub few_keys : (fs : List (List ℕ)) → FewKeys (remembered fs (atoms_of x)).tally
  unfolding remembered
  few_keys fs = rounds_keys fs (suc (unlowered blank (numbers (atoms_of x))))

  pub small_settings : (cfg : SamplerConfig) → settings (frames_of x) ≡ Some cfg → Small cfg
  unfolding settings
  small_settings cfg e =
      let p = find_some (0x20 ∷ []) (frames_of x) (found (find (0x20 ∷ []) (frames_of x)) cfg e) in
      let w = accepted Query x n c ok in
      settings_small (get_or (frames_of x) p.at []) cfg (rw p.is at e) p.begun (w.formed p.at (omega (arith, w.lines, p.within))).limits
