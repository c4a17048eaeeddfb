-- The plan of an accepted query: its text is accepted by the reading of plans, read back to the same steps, and at most 20,565 bytes long,
-- whatever the costs. Proved from what holds of an accepted text and of each of its frames.
use Prim.Native.Nat.{ℕ, suc, ◌+◌, ◌<◌, ◌≤◌}
use mathlib.Core.Path.{◌≡◌, refl, sym, ◌∙◌}
use mathlib.Core.Bool.{Bool, true, false}
use mathlib.Core.List.{List, [], ◌∷◌}
use native.Mathlib.Omega.{arith}
use native.Mathlib.Nat.{add-zero}
use lib.ListN.{length, get_or}
use lib.Pow.{are_bytes}
use Rattle.reading_facts.specs.Choose.{pick}
use Rattle.reading_facts.proofs.ChooseLaws.{is_true}
use Rattle.reading_facts.specs.Limits.{atoms_most}
use Rattle.reading_facts.specs.Faults.{is_atom}
use Rattle.reading_facts.specs.First.{frames_of}
use Rattle.reading_facts.specs.Counts.{Counts}
use Rattle.reading_facts.specs.Text.TheVariants.{Query}
use Rattle.reading_facts.specs.Reading.{Accepted}
use Rattle.reading_facts.specs.Second.{counts_of, reading}
use Rattle.reading_facts.proofs.Whole.{count_from, accepted, query_within, frame_bytes}
use Rattle.plans.specs.Atoms.{Atom}
use Rattle.plans.specs.Scheduling.{State, Chosen, Fair, atom_of, numbers, schedule}
use Rattle.cost.specs.QueryAtoms.{atom_of_frame, atoms_in}
use Rattle.plans.specs.Items.{Each}
use Rattle.plans.proofs.PlanRead.{plan_length}
use Rattle.plans.specs.StepFrames.{AtomFits}
use Rattle.plans.proofs.Fitting.{atom_more}
use Rattle.plans.specs.PlanText.{QueryFits}
use Rattle.plans.proofs.Longest.{few_steps, few_bytes, schedule_accepted, schedule_read}
use Rattle.plan_facts.proofs.AtomFrames.{Good, frame_fits}
use Rattle.plan_facts.specs.QueryPlans.{atoms_of, count_at, ReadBack}

-- ---- the atoms among frames
each_at : {X : Type 0} (P : X → Type 0) (d : X) (l : List X) → ((i : ℕ) → i < length l → P (get_or l i d)) → Each P l
each_at P d [] h = tt
each_at P d (x ∷ l) h = (h 0 (omega arith), each_at P d l (λ i k. h (suc i) (omega arith)))

atoms_fit : (n : Counts) (fs : List (List ℕ)) → Each (Good n) fs → Each (AtomFits n) (atoms_in fs)
unfolding atoms_in
atoms_fit n [] h = tt
atoms_fit n (f ∷ fs) h = go (is_atom (get_or f 0 0)) refl (atoms_fit n fs h.1)
  where
    go : (b : Bool) → is_atom (get_or f 0 0) ≡ b → Each (AtomFits n) (atoms_in fs) → Each (AtomFits n) (pick b (atom_of_frame f ∷ atoms_in fs) (atoms_in fs))
    go true e r = (frame_fits n f e h.0, r)
    go false e r = r

atoms_count : (fs : List (List ℕ)) (c : ℕ) → count_from Query c fs ≡ c + length (atoms_in fs)
unfolding atoms_in
atoms_count [] c = sym (add-zero c)
atoms_count (f ∷ fs) c = go (is_atom (get_or f 0 0)) (atoms_count fs)
  where
    go : (b : Bool) → ((d : ℕ) → count_from Query d fs ≡ d + length (atoms_in fs)) → count_from Query (pick b (c + 1) c) fs ≡ c + length (pick b (atom_of_frame f ∷ atoms_in fs) (atoms_in fs))
    go true r = r (c + 1) ∙ omega arith
    go false r = r c

each_more : (n : Counts) (m : ℕ) → n.atoms ≤ m → (qs : List Atom) → Each (AtomFits n) qs → Each (AtomFits (record { variables = n.variables; globals = n.globals; literals = n.literals; atoms = m; rows = n.rows; table = n.table })) qs
each_more n m k [] h = tt
each_more n m k (a ∷ qs) h = (atom_more n m k a h.0, each_more n m k qs h.1)

module _ (x : List ℕ) (n c : ℕ) (ok : reading Query x ≡ Accepted n c) where
  -- each of its frames
  pub good : Each (Good (counts_of Query x c)) (frames_of x)
  good =
      let w = accepted Query x n c ok in
      let e = w.lines in
      each_at (Good (counts_of Query x c)) [] (frames_of x) (λ i h. record {
        bytes = is_true (are_bytes (get_or (frames_of x) i [])) (frame_bytes x i);
        limits = (w.formed i (omega arith)).limits;
        range = (w.named i (omega arith)).range;
      })

  pub atoms_number : length (atoms_of x) ≡ c
  atoms_number = let w = accepted Query x n c ok in omega (arith, w.counts, atoms_count (frames_of x) 0)

  pub query_fits : (t r : ℕ) → t < 65536 → r < 65536 → QueryFits (count_at x 1) (count_at x 2) (count_at x 3) t r (atoms_of x)
  query_fits t r p q =
      let w = query_within x n c ok in
      record {
        variables_few = w.header.variables;
        globals_few = w.header.globals;
        literals_few = w.header.literals;
        atoms_few = omega (arith, atoms_number, w.atoms);
        atoms = each_more (counts_of Query x c) atoms_most w.atoms (atoms_of x) (atoms_fit (counts_of Query x c) (frames_of x) good);
        tallied_few = p;
        rejected_few = q;
      }

  -- the plan of an accepted query, whatever the costs
  pub plan_read_back : {X : Type 0} (choose : X → State → Chosen X) (s : X) → Fair (atom_of (atoms_of x)) (numbers (atoms_of x)) choose → (t r : ℕ) → t < 65536 → r < 65536 → ReadBack x t r (schedule (atoms_of x) choose s).steps
  plan_read_back choose s fair t r p q =
      let fit = query_fits t r p q in
      record {
        accepts = schedule_accepted (count_at x 1) (count_at x 2) (count_at x 3) t r (atoms_of x) fit choose s fair;
        gives = schedule_read (count_at x 1) (count_at x 2) (count_at x 3) t r (atoms_of x) fit choose s fair;
        long = plan_length (count_at x 1) (count_at x 2) (count_at x 3) t r (schedule (atoms_of x) choose s).steps;
        short = few_bytes (count_at x 1) (count_at x 2) (count_at x 3) t r (atoms_of x) fit choose s fair;
        few = few_steps (count_at x 1) (count_at x 2) (count_at x 3) t r (atoms_of x) fit choose s fair;
      }
