-- Where the places are noted the atoms are located. Proved by induction over the frames.
use Prim.Native.Nat.{ℕ, zero, suc, ◌<◌, ◌≤◌}
use mathlib.Core.Path.{◌≡◌, refl, sym, ◌∙◌, ap}
use mathlib.Core.Bool.{Bool, true, false}
use mathlib.Core.List.{List, [], ◌∷◌}
use native.Mathlib.Omega.{arith}
use lib.ListN.{length, get_or}
use Rattle.hexadecimal.specs.Choose.{pick}
use Rattle.frames.specs.Sheet.{frames_in}
use Rattle.passes.specs.Faults.{is_atom}
use Rattle.passes.specs.Bound.{bound_most}
use Rattle.passes.specs.Scheduling.{atom_of}
use Rattle.passes.specs.QueryAtoms.{atom_of_frame, atom_frames, atoms_in}
use Rattle.passes.specs.AtomLines.{AtomLine}
use Rattle.passes.specs.Eager.{Located}
use Rattle.placing.specs.Places.{Places}

-- as many frames as atoms, in the same order
pub frames_length : (fs : List (List ℕ)) → length (atoms_in fs) ≡ length (atom_frames fs)
unfolding atoms_in atom_frames
frames_length [] = refl
frames_length (f ∷ fs) = by (is_atom (get_or f 0 0)) (frames_length fs)
  where
    by : (t : Bool) → length (atoms_in fs) ≡ length (atom_frames fs) → length (pick t (atom_of_frame f ∷ atoms_in fs) (atoms_in fs)) ≡ length (pick t (f ∷ atom_frames fs) (atom_frames fs))
    by true h = ap suc h
    by false h = h

pub frames_at : (fs : List (List ℕ)) (k : ℕ) → k < length (atom_frames fs) → atom_of (atoms_in fs) k ≡ atom_of_frame (get_or (atom_frames fs) k [])
unfolding atoms_in atom_frames atom_of
frames_at [] k h = absurd (omega arith)
frames_at (f ∷ fs) k h = by (is_atom (get_or f 0 0)) k h (frames_at fs)
  where
    by : (t : Bool) (k : ℕ) → k < length (pick t (f ∷ atom_frames fs) (atom_frames fs)) → ((j : ℕ) → j < length (atom_frames fs) → atom_of (atoms_in fs) j ≡ atom_of_frame (get_or (atom_frames fs) j []))
        → atom_of (pick t (atom_of_frame f ∷ atoms_in fs) (atoms_in fs)) k ≡ atom_of_frame (get_or (pick t (f ∷ atom_frames fs) (atom_frames fs)) k [])
    by true zero h r = refl
    by true (suc j) h r = r j (omega arith)
    by false k h r = r k h

-- the places serve the passes over the atoms of an accepted query
pub located : (x from : List ℕ) (n : ℕ) → Places x from n → n ≤ bound_most → ((k : ℕ) → k < n → AtomLine (get_or (atom_frames (frames_in x)) k [])) → Located x from n
located x from n p few lines = record {
  count = p.count ∙ sym (frames_length (frames_in x));
  few = few;
  size = p.size;
  within = p.within;
  is = λ k h. frames_at (frames_in x) k (omega (arith, p.count)) ∙ ap atom_of_frame (sym (p.is k h));
  line = λ k h. rw (p.is k h) (lines k h);
}
