-- No atom that is read off a frame has a wildcard: tag 02 is refused (4), and no other tag than 00 is read as one. Proved kind by kind.
use Prim.Native.Nat.{ℕ, zero, suc, ◌+◌}
use mathlib.Core.Path.{◌≡◌, refl, ap, ◌∙◌}
use mathlib.Core.Bool.{Bool, true, false}
use mathlib.Core.List.Memᴰ
use mathlib.Core.List.{List, [], ◌∷◌, Memᴰ}
use mathlib.Core.Logic.{◌⊎◌, inl, inr}
use lib.ListN.{get_or}
use lib.Dec.{eqb}
use Rattle.hexadecimal.specs.Choose.{pick}
use Rattle.samplers.specs.Faults.{is_atom}
use Rattle.samplers.proofs.Bools.{both}
use Rattle.samplers.specs.Atoms.{local, global, Atom, tame, all_tame, tame_atom}
use Rattle.cost.specs.QueryAtoms.{operands_from, atom_of_frame, atoms_in}
use Rattle.samplers.specs.Lookups.{operand_at}

pub operand_tame : (f : List ℕ) (i : ℕ) → tame (operand_at f i) ≡ true
operand_tame f i = by (eqb (get_or f i 0) 0)
  where
    by : (b : Bool) → tame (pick b (local (get_or f (i + 1) 0)) (global (get_or f (i + 1) 0))) ≡ true
    by true = refl
    by false = refl

operands_tame : (f : List ℕ) (i w n : ℕ) → all_tame (operands_from f i w n) ≡ true
unfolding all_tame operands_from
operands_tame f i w zero = refl
operands_tame f i w (suc n) = both (operand_tame f i) (operands_tame f (i + w) w n)

-- one kind or another
either : (b : Bool) (x y : Atom) → tame_atom x ≡ true → tame_atom y ≡ true → tame_atom (pick b x y) ≡ true
either true x y h k = h
either false x y h k = k

atom_tame : (f : List ℕ) → tame_atom (atom_of_frame f) ≡ true
unfolding atom_of_frame
atom_tame f =
    either (eqb (get_or f 0 0) 0x01) _ _ (operands_tame f 4 2 (get_or f 3 0))
    (either (eqb (get_or f 0 0) 0x02) _ _ refl
    (either (eqb (get_or f 0 0) 0x03) _ _ refl
    (either (eqb (get_or f 0 0) 0x04) _ _ refl
    (either (eqb (get_or f 0 0) 0x05) _ _ refl
    (either (eqb (get_or f 0 0) 0x06) _ _ refl
    (either (eqb (get_or f 0 0) 0x07) _ _ (operands_tame f 4 2 (get_or f 3 0))
    (either (eqb (get_or f 0 0) 0x08) _ _ (operands_tame f 5 2 (get_or f 4 0))
    (either (eqb (get_or f 0 0) 0x09) _ _ (operands_tame f 5 2 (get_or f 4 0))
    (either (eqb (get_or f 0 0) 0x0a) _ _ (operands_tame f 6 2 (get_or f 5 0))
    (either (eqb (get_or f 0 0) 0x0b) _ _ (operands_tame f 4 3 (get_or f 3 0))
    (either (eqb (get_or f 0 0) 0x0c) _ _ (operands_tame f 5 3 (get_or f 4 0))
    (either (eqb (get_or f 0 0) 0x0d) _ _ (operands_tame f 4 2 (get_or f 3 0))
    (operands_tame f 5 2 (get_or f 4 0))))))))))))))

pub atoms_tame : (fs : List (List ℕ)) (a : Atom) → Memᴰ a (atoms_in fs) → tame_atom a ≡ true
unfolding atoms_in
atoms_tame [] a m = absurd (Memᴰ.not-nil m)
atoms_tame (f ∷ fs) a m = by (is_atom (get_or f 0 0)) m (λ k. atoms_tame fs a k)
  where
    by : (b : Bool) → Memᴰ a (pick b (atom_of_frame f ∷ atoms_in fs) (atoms_in fs)) → (Memᴰ a (atoms_in fs) → tame_atom a ≡ true) → tame_atom a ≡ true
    by true m k = at (Memᴰ.cases_cons m)
      where
        at : (a ≡ atom_of_frame f) ⊎ Memᴰ a (atoms_in fs) → tame_atom a ≡ true
        at (inl e) = ap tame_atom e ∙ atom_tame f
        at (inr i) = k i
    by false m k = k m
