-- The operator of an atom, sought frame by frame. Assumes nothing.
use Prim.Native.Nat.{ℕ, zero, suc, ◌-◌}
use mathlib.Core.Path.{◌≡◌, refl, sym, ◌∙◌}
use mathlib.Core.Bool.{Bool, true, false}
use mathlib.Core.List.{List, [], ◌∷◌}
use native.Mathlib.Omega.{arith}
use lib.ListN.{get_or}
use Rattle.hexadecimal.specs.Choose.{pick}
use Rattle.samplers.specs.Faults.{is_atom}
use Rattle.cost.specs.QueryAtoms.{atom_frames}
use Rattle.cost.specs.Sampling.{operator_of}
use Rattle.cost.specs.Draws.{OperatorFor}

-- the atom of all frames is number `left` of those in fs
module _ (all : List (List ℕ)) (atom : ℕ) (fs : List (List ℕ)) (left : ℕ) (is : operator_of all atom ≡ operator_of fs left) where
  pub seeking_end : fs ≡ [] → 0 ≡ operator_of all atom
  unfolding atom_frames
  seeking_end e = sym (is ∙ rw e)

  module _ (f : List ℕ) (gs : List (List ℕ)) (step : fs ≡ f ∷ gs) (b : ℕ) (r : b ≡ get_or f 0 0) (t : Bool) (q : t ≡ is_atom b) where
    here : operator_of all atom ≡ get_or (get_or (pick t (f ∷ atom_frames gs) (atom_frames gs)) left []) 2 0
    unfolding atom_frames
    here = is ∙ rw (step, q, r)

    pub seeking_pass : t ≡ false → operator_of all atom ≡ operator_of gs left
    seeking_pass n = here ∙ rw n

    pub seeking_here : t ≡ true → left ≡ 0 → (o : ℕ) → o ≡ get_or f 2 0 → o ≡ operator_of all atom
    seeking_here n z o e = e ∙ sym (here ∙ rw (n, z))

    pub seeking_next : t ≡ true → (left ≡ 0 → ⊥) → operator_of all atom ≡ operator_of gs (left - 1)
    seeking_next n z = here ∙ rw n (by left z)
      where
        by : (m : ℕ) → (m ≡ 0 → ⊥) → get_or (get_or (f ∷ atom_frames gs) m []) 2 0 ≡ operator_of gs (m - 1)
        by zero y = absurd (y refl)
        by (suc m) y = let e : suc m - 1 ≡ m = omega arith in rw e

-- where no table is asked, any will do
pub no_operator : (fs : List (List ℕ)) (t : Bool) (atom o : ℕ) → t ≡ false → OperatorFor fs t atom o
no_operator fs t atom o q = record { is = λ h. let z : ◌≡◌ {A = ℕ} 0 1 = cc in absurd (omega arith) }
