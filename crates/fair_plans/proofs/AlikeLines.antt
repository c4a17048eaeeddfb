-- Two query texts with the same header line and the same lines of atoms, in whatever order, are alike in header and atoms: `alike_lines`.
-- Proved by membership among the frames.
use Prim.Native.Nat.{ℕ}
use mathlib.Core.Path.{◌≡◌, refl, sym, ap, subst}
use mathlib.Core.Logic.{◌⊎◌, inl, inr}
use mathlib.Core.Bool.{Bool, true, false}
use mathlib.Core.List.Memᴰ
use mathlib.Core.List.{List, [], ◌∷◌, Memᴰ}
use native.Mathlib.Omega.{arith}
use lib.ListN.{get_or}
use Rattle.running.specs.Choose.{pick}
use Rattle.running.specs.Digits.{bytes_of}
use Rattle.running.specs.Faults.{is_atom}
use Rattle.running.specs.First.{frames_of, first_line}
use Rattle.running.specs.Atoms.{Atom}
use Rattle.fitting.specs.QueryAtoms.{atom_of_frame, atoms_in}
use Rattle.fair_plans.specs.Terms.{Alike}

-- each line of an atom is one of the other text's
abbrev AtomLines : List (List ℕ) → List (List ℕ) → Type 0
AtomLines fs gs = (f : List ℕ) → is_atom (get_or f 0 0) ≡ true → Memᴰ f fs → Memᴰ f gs

pub record SameText (x y : List ℕ) : Type 0 where
  pub header : bytes_of (first_line x) ≡ bytes_of (first_line y)
  pub to : AtomLines (frames_of x) (frames_of y)
  pub back : AtomLines (frames_of y) (frames_of x)

-- the frame of an atom
record FrameOf (fs : List (List ℕ)) (a : Atom) : Type 0 where
  pub frame : List ℕ
  pub kind : is_atom (get_or frame 0 0) ≡ true
  pub within : Memᴰ frame fs
  pub is : a ≡ atom_of_frame frame

frame_of_lem : (fs : List (List ℕ)) (a : Atom) → Memᴰ a (atoms_in fs) → FrameOf fs a
unfolding atoms_in
frame_of_lem [] a m = absurd (Memᴰ.not-nil m)
frame_of_lem (f ∷ fs) a m = by (is_atom (get_or f 0 0)) refl m (frame_of_lem fs a)
  where
    later : FrameOf fs a → FrameOf (f ∷ fs) a
    later r = record { frame = r.frame; kind = r.kind; within = Memᴰ.tail r.within; is = r.is }

    by : (t : Bool) → is_atom (get_or f 0 0) ≡ t → Memᴰ a (pick t (atom_of_frame f ∷ atoms_in fs) (atoms_in fs)) → (Memᴰ a (atoms_in fs) → FrameOf fs a) → FrameOf (f ∷ fs) a
    by false e m k = later (k m)
    by true e m k = at (Memᴰ.cases_cons m)
      where
        at : (a ≡ atom_of_frame f) ⊎ Memᴰ a (atoms_in fs) → FrameOf (f ∷ fs) a
        at (inl q) = record { frame = f; kind = e; within = Memᴰ.head refl; is = q }
        at (inr i) = later (k i)

atom_of_lem : (fs : List (List ℕ)) (f : List ℕ) → is_atom (get_or f 0 0) ≡ true → Memᴰ f fs → Memᴰ (atom_of_frame f) (atoms_in fs)
unfolding atoms_in
atom_of_lem [] f h m = absurd (Memᴰ.not-nil m)
atom_of_lem (g ∷ fs) f h m = by (is_atom (get_or g 0 0)) refl (Memᴰ.cases_cons m) (atom_of_lem fs f h)
  where
    by : (t : Bool) → is_atom (get_or g 0 0) ≡ t → (f ≡ g) ⊎ Memᴰ f fs → (Memᴰ f fs → Memᴰ (atom_of_frame f) (atoms_in fs)) → Memᴰ (atom_of_frame f) (pick t (atom_of_frame g ∷ atoms_in fs) (atoms_in fs))
    by true e (inl q) k = Memᴰ.head (ap atom_of_frame q)
    by true e (inr i) k = Memᴰ.tail (k i)
    by false e (inl q) k = let i : is_atom (get_or g 0 0) ≡ true = rw q at h in let z : ◌≡◌ {A = ℕ} 0 1 = cc in absurd (omega arith)
    by false e (inr i) k = k i

over : (fs gs : List (List ℕ)) → AtomLines fs gs → (a : Atom) → Memᴰ a (atoms_in fs) → Memᴰ a (atoms_in gs)
over fs gs s a m = let r = frame_of_lem fs a m in subst (λ (b : Atom). Memᴰ b (atoms_in gs)) (sym r.is) (atom_of_lem gs r.frame r.kind (s r.frame r.kind r.within))

pub alike_lines : (x y : List ℕ) → SameText x y → Alike x y
alike_lines x y s = record {
  variables = ap (λ (h : List ℕ). get_or h 1 0) s.header;
  literals = ap (λ (h : List ℕ). get_or h 3 0) s.header;
  atoms = record { to = over (frames_of x) (frames_of y) s.to; back = over (frames_of y) (frames_of x) s.back };
}
