-- The tests of the reading give what the lowering asks of an atom's line. Proved kind by kind.
use Prim.Native.Nat.{ℕ, zero, suc, ◌+◌, ◌<◌, ◌≤◌}
use mathlib.Core.Path.{◌≡◌, refl, sym, ◌∙◌}
use mathlib.Core.Bool.{Bool, true, false}
use mathlib.Core.List.{List, [], ◌∷◌, ◌++◌, flat_map}
use native.Mathlib.Omega.{arith}
use lib.Dec.{eqb, ltb}
use lib.ListN.{get_or, replicate}
use borrow.Author.Tests.{ltb-true, lt-ltb}
use Rattle.fields.specs.Choose.{pick}
use Rattle.fields.proofs.ChooseLaws.{both_hold}
use Rattle.lowering.specs.Faults.{is_atom}
use Rattle.fields.specs.Fields.{width, field_in, field_passes, operand_in}
use Rattle.lowering.specs.Kinds.{kinds, kind_at}
use Rattle.lowering.specs.Frames.{pass_all, frame_passes}
use Rattle.fields.specs.declared.field.Counts.{Counts}
use Rattle.fields.specs.declared.field.Field.{Field}
use Rattle.fields.specs.declared.field.Field.TheVariants.{Operand, Element}
use Rattle.fields.specs.declared.field.Test.TheVariants.{Range}
use Rattle.lowering.specs.Atoms.{local, global, local_of, vars_in}
use Rattle.lowering.proofs.Bools.{both, first, second}
use Rattle.lowering.specs.Bound.{bound_most}
use Rattle.lowering.specs.Premises.{numbers_below}
use Rattle.lowering.specs.QueryAtoms.{operands_from, atom_of_frame}
use Rattle.lowering.specs.AtomLines.{AtomLine}
use Rattle.lowering.proofs.AtomLaws.{by_kind}

below_more : (m n : ℕ) (vs : List ℕ) → m ≤ n → numbers_below m vs ≡ true → numbers_below n vs ≡ true
unfolding numbers_below
below_more m n [] l h = refl
below_more m n (v ∷ vs) l h =
    let b : v < m = ltb-true v m (first (ltb v m) (numbers_below m vs) h) in
    both (lt-ltb v n (omega arith)) (below_more m n vs l (second (ltb v m) (numbers_below m vs) h))

module _ (n : Counts) where
  -- the operands of a frame, where each is in range
  items_in : (x : Field) → ((f : List ℕ) (i : ℕ) → field_passes Range n x f i ≡ operand_in n (get_or f i 0) (get_or f (i + 1) 0)) → (f : List ℕ) (i k : ℕ) → pass_all (field_passes Range n) (replicate k x) f i ≡ true → numbers_below n.variables (flat_map local_of (operands_from f i (width x) k)) ≡ true
  unfolding pass_all numbers_below flat_map operands_from
  items_in x is f i zero h = refl
  items_in x is f i (suc k) h = by (eqb (get_or f i 0) 0) (sym (is f i) ∙ (both_hold (field_passes Range n x f i) _ h).0) (items_in x is f (i + width x) k (both_hold (field_passes Range n x f i) _ h).1)
    where
      by : (t : Bool) → pick t (ltb (get_or f (i + 1) 0) n.variables) (ltb (get_or f (i + 1) 0) n.globals) ≡ true → numbers_below n.variables (flat_map local_of (operands_from f (i + width x) (width x) k)) ≡ true
          → numbers_below n.variables (local_of (pick t (local (get_or f (i + 1) 0)) (global (get_or f (i + 1) 0))) ++ flat_map local_of (operands_from f (i + width x) (width x) k)) ≡ true
      by true a r = both a r
      by false a r = r

  operand_in_lem : (f : List ℕ) (i : ℕ) → field_passes Range n Operand f i ≡ operand_in n (get_or f i 0) (get_or f (i + 1) 0)
  unfolding field_passes field_in
  operand_in_lem f i = refl

  element_in : (f : List ℕ) (i : ℕ) → field_passes Range n Element f i ≡ operand_in n (get_or f i 0) (get_or f (i + 1) 0)
  unfolding field_passes field_in
  element_in f i = refl

  vars_in_lem : (f : List ℕ) → is_atom (get_or f 0 0) ≡ true → frame_passes (field_passes Range n) f ≡ true → numbers_below n.variables (vars_in (atom_of_frame f)) ≡ true
  unfolding atom_of_frame kinds kind_at pass_all field_passes field_in numbers_below
  vars_in_lem = by_kind (λ f. frame_passes (field_passes Range n) f ≡ true → numbers_below n.variables (vars_in (atom_of_frame f)) ≡ true)
      (λ r h. both (both_hold (ltb (get_or r 0 0) n.variables) _ (both_hold (pass_all (field_passes Range n) (kind_at 1).fields (1 ∷ r) 1) _ h).0).0 (items_in Operand operand_in_lem (1 ∷ r) 4 (get_or (1 ∷ r) 3 0) (both_hold (pass_all (field_passes Range n) (kind_at 1).fields (1 ∷ r) 1) _ h).1))
      (λ r h. both (both_hold (ltb (get_or r 0 0) n.variables) _ (both_hold (pass_all (field_passes Range n) (kind_at 2).fields (2 ∷ r) 1) _ h).0).0 refl)
      (λ r h. both (both_hold (ltb (get_or r 0 0) n.variables) _ (both_hold (pass_all (field_passes Range n) (kind_at 3).fields (3 ∷ r) 1) _ h).0).0 refl)
      (λ r h. let g = (both_hold (pass_all (field_passes Range n) (kind_at 4).fields (4 ∷ r) 1) _ h).0 in both (both_hold (ltb (get_or r 0 0) n.variables) _ g).0 (both (both_hold (ltb (get_or r 1 0) n.variables) true (both_hold (ltb (get_or r 0 0) n.variables) _ g).1).0 refl))
      (λ r h. both (both_hold (ltb (get_or r 0 0) n.variables) _ (both_hold (pass_all (field_passes Range n) (kind_at 5).fields (5 ∷ r) 1) _ h).0).0 refl)
      (λ r h. refl)
      (λ r h. both (both_hold (ltb (get_or r 0 0) n.variables) _ (both_hold (pass_all (field_passes Range n) (kind_at 7).fields (7 ∷ r) 1) _ h).0).0 (items_in Operand operand_in_lem (7 ∷ r) 4 (get_or (7 ∷ r) 3 0) (both_hold (pass_all (field_passes Range n) (kind_at 7).fields (7 ∷ r) 1) _ h).1))
      (λ r h. both (both_hold (ltb (get_or r 0 0) n.variables) _ (both_hold (pass_all (field_passes Range n) (kind_at 8).fields (8 ∷ r) 1) _ h).0).0 (items_in Operand operand_in_lem (8 ∷ r) 5 (get_or (8 ∷ r) 4 0) (both_hold (pass_all (field_passes Range n) (kind_at 8).fields (8 ∷ r) 1) _ h).1))
      (λ r h. both (both_hold (ltb (get_or r 0 0) n.variables) _ (both_hold (pass_all (field_passes Range n) (kind_at 9).fields (9 ∷ r) 1) _ h).0).0 (items_in Operand operand_in_lem (9 ∷ r) 5 (get_or (9 ∷ r) 4 0) (both_hold (pass_all (field_passes Range n) (kind_at 9).fields (9 ∷ r) 1) _ h).1))
      (λ r h. both (both_hold (ltb (get_or r 0 0) n.variables) _ (both_hold (pass_all (field_passes Range n) (kind_at 10).fields (10 ∷ r) 1) _ h).0).0 (items_in Operand operand_in_lem (10 ∷ r) 6 (get_or (10 ∷ r) 5 0) (both_hold (pass_all (field_passes Range n) (kind_at 10).fields (10 ∷ r) 1) _ h).1))
      (λ r h. both (both_hold (ltb (get_or r 0 0) n.variables) _ (both_hold (pass_all (field_passes Range n) (kind_at 11).fields (11 ∷ r) 1) _ h).0).0 (items_in Element element_in (11 ∷ r) 4 (get_or (11 ∷ r) 3 0) (both_hold (pass_all (field_passes Range n) (kind_at 11).fields (11 ∷ r) 1) _ h).1))
      (λ r h. both (both_hold (ltb (get_or r 0 0) n.variables) _ (both_hold (pass_all (field_passes Range n) (kind_at 12).fields (12 ∷ r) 1) _ h).0).0 (items_in Element element_in (12 ∷ r) 5 (get_or (12 ∷ r) 4 0) (both_hold (pass_all (field_passes Range n) (kind_at 12).fields (12 ∷ r) 1) _ h).1))
      (λ r h. both (both_hold (ltb (get_or r 0 0) n.variables) _ (both_hold (pass_all (field_passes Range n) (kind_at 13).fields (13 ∷ r) 1) _ h).0).0 (items_in Operand operand_in_lem (13 ∷ r) 4 (get_or (13 ∷ r) 3 0) (both_hold (pass_all (field_passes Range n) (kind_at 13).fields (13 ∷ r) 1) _ h).1))
      (λ r h. both (both_hold (ltb (get_or r 0 0) n.variables) _ (both_hold (pass_all (field_passes Range n) (kind_at 14).fields (14 ∷ r) 1) _ h).0).0 (items_in Operand operand_in_lem (14 ∷ r) 5 (get_or (14 ∷ r) 4 0) (both_hold (pass_all (field_passes Range n) (kind_at 14).fields (14 ∷ r) 1) _ h).1))

  -- a frame of an atom that passes test 5, with at most 64 variables
  pub atom_line : (f : List ℕ) → is_atom (get_or f 0 0) ≡ true → n.variables ≤ bound_most → frame_passes (field_passes Range n) f ≡ true → AtomLine f
  atom_line f a l h = record { kind = a; variables = below_more n.variables bound_most (vars_in (atom_of_frame f)) l (vars_in_lem f a h) }
