-- The steps of one atom by its kind: a Join and what follows it, or one step alone. Proved kind by kind, from what the lowering is.
use Prim.Native.Nat.{ℕ, ◌+◌, ◌<◌, ◌≤◌}
use mathlib.Core.Path.{◌≡◌, refl, sym, ◌∙◌, subst}
use mathlib.Core.Bool.{Bool, true}
use mathlib.Core.List.{List, [], ◌∷◌, map, flat_map}
use native.Mathlib.Omega.{arith}
use lib.Dec.{leb}
use lib.ListN.{length, get_or}
use lib.Seq.{length-take-le}
use borrow.Author.Tests.{ltb-true, leb-true}
use Rattle.hexadecimal.proofs.ChooseLaws.{both_hold}
use Rattle.binding.specs.Faults.{is_atom}
use Rattle.binding.specs.Kinds.{kinds, kind_at, fixed_length}
use Rattle.output.specs.Frames.{kind_of}
use Rattle.output.specs.Atoms.{local_of, Step, Atom}
use Rattle.binding.specs.Bound.{Bound, add, bound_most}
use Rattle.binding.specs.Lowering.{contains_lookups, mark_all, emit_read_children, lower}
use Rattle.binding.specs.Premises.{numbers_below}
use Rattle.binding.specs.QueryAtoms.{operands_from, atom_of_frame}
use Rattle.output.specs.StepFrames.{frame_of}
use Rattle.output.specs.PlanText.{text_length}
use Rattle.binding.specs.ItemOperands.{item_operands}
use Rattle.lowering.specs.AtomLines.{bound_behind, Lowers}
use Rattle.binding.proofs.SetLaws.{add_size}
use Rattle.lowering.proofs.AtomLaws.{by_kind, items_kind, node_kind}
use Rattle.output.specs.Written.{fixed_in, PutsFrames, PutsStep}
use Rattle.output.proofs.PutLaws.{frames_none, frames_then}
use Rattle.step_bytes.specs.Begun.{Begins, steps_of, behind_of}
use Rattle.joining.specs.Joins.{join_of}
use Rattle.emitting.specs.Emitting.{Emits, Emittable}

atom_least : (f : List ℕ) → Emittable f → 1 ≤ get_or f 0 0
atom_least f e = leb-true 1 (get_or f 0 0) (both_hold (leb 1 (get_or f 0 0)) _ e.atom.kind).0

atom_most : (f : List ℕ) → Emittable f → get_or f 0 0 ≤ 14
atom_most f e = leb-true (get_or f 0 0) 14 (both_hold (leb 1 (get_or f 0 0)) (leb (get_or f 0 0) 14) e.atom.kind).1

-- ---- the Join, then other steps

then_steps : (s : Step) (ss : List Step) (B : Bound) (k : ℕ) (a : Atom) (o p q : List ℕ) (at i r : ℕ) → steps_of (lower B k a) ≡ s ∷ ss → PutsStep o at s p i → PutsFrames p i (map frame_of ss) q r → r ≤ i + 4096 → Emits B k a o at q r
then_steps s ss B k a o p q at i r e u v l = record {
  puts = subst (λ (x : List Step). PutsFrames o at (map frame_of x) q r) (sym e) (frames_then (frame_of s ∷ []) (map frame_of ss) u.puts v);
  near = omega (arith, u.near);
}

-- a literal's
literal_steps : (B : Bound) (k : ℕ) (f : List ℕ) → is_atom (get_or f 0 0) ≡ true → 1 < get_or f 0 0 → get_or f 0 0 < 4 → steps_of (lower B k (atom_of_frame f)) ≡ join_of B k f ∷ behind_of (atom_of_frame f)
unfolding atom_of_frame kind_at kinds lower contains_lookups operands_from
literal_steps B k = by_kind (λ f. 1 < get_or f 0 0 → get_or f 0 0 < 4 → steps_of (lower B k (atom_of_frame f)) ≡ join_of B k f ∷ behind_of (atom_of_frame f)) (λ r l m. absurd (omega arith)) (λ r l m. refl) (λ r l m. refl) (λ r l m. absurd (omega arith)) (λ r l m. absurd (omega arith)) (λ r l m. absurd (omega arith)) (λ r l m. absurd (omega arith)) (λ r l m. absurd (omega arith)) (λ r l m. absurd (omega arith)) (λ r l m. absurd (omega arith)) (λ r l m. absurd (omega arith)) (λ r l m. absurd (omega arith)) (λ r l m. absurd (omega arith)) (λ r l m. absurd (omega arith))

-- a collection's
collection_steps : (B : Bound) (k : ℕ) (f : List ℕ) → is_atom (get_or f 0 0) ≡ true → 6 < get_or f 0 0 → steps_of (lower B k (atom_of_frame f)) ≡ join_of B k f ∷ behind_of (atom_of_frame f)
unfolding atom_of_frame kind_at kinds lower
collection_steps B k = by_kind (λ f. 6 < get_or f 0 0 → steps_of (lower B k (atom_of_frame f)) ≡ join_of B k f ∷ behind_of (atom_of_frame f)) (λ r h. absurd (omega arith)) (λ r h. absurd (omega arith)) (λ r h. absurd (omega arith)) (λ r h. absurd (omega arith)) (λ r h. absurd (omega arith)) (λ r h. absurd (omega arith)) (λ r h. refl) (λ r h. refl) (λ r h. refl) (λ r h. refl) (λ r h. refl) (λ r h. refl) (λ r h. refl) (λ r h. refl)

-- an atom's that has none: its number does not matter
lone_steps : (B : Bound) (k : ℕ) (f : List ℕ) → is_atom (get_or f 0 0) ≡ true → 3 < get_or f 0 0 → get_or f 0 0 < 7 → steps_of (lower B k (atom_of_frame f)) ≡ steps_of (lower B 0 (atom_of_frame f))
unfolding atom_of_frame lower
lone_steps B k = by_kind (λ f. 3 < get_or f 0 0 → get_or f 0 0 < 7 → steps_of (lower B k (atom_of_frame f)) ≡ steps_of (lower B 0 (atom_of_frame f))) (λ r l m. absurd (omega arith)) (λ r l m. absurd (omega arith)) (λ r l m. absurd (omega arith)) (λ r l m. refl) (λ r l m. refl) (λ r l m. refl) (λ r l m. absurd (omega arith)) (λ r l m. absurd (omega arith)) (λ r l m. absurd (omega arith)) (λ r l m. absurd (omega arith)) (λ r l m. absurd (omega arith)) (λ r l m. absurd (omega arith)) (λ r l m. absurd (omega arith)) (λ r l m. absurd (omega arith))

-- a Plain's
plain_steps : (B : Bound) (k : ℕ) (f : List ℕ) → get_or f 0 0 ≡ 1 → steps_of (lower B k (atom_of_frame f)) ≡ join_of B k f ∷ emit_read_children (get_or f 1 0) 0 (add B (get_or f 1 0)) (item_operands f)
unfolding atom_of_frame kind_at kinds lower
plain_steps B k f h = rw h

plain_bound : (B : Bound) (k : ℕ) (f : List ℕ) → get_or f 0 0 ≡ 1 → bound_behind B (lower B k (atom_of_frame f)) ≡ mark_all (add B (get_or f 1 0)) (item_operands f)
unfolding atom_of_frame kind_at kinds lower
plain_bound B k f h = rw h

-- ---- a Plain

module _ (f : List ℕ) (e : Emittable f) (h : get_or f 0 0 ≡ 1) (B : Bound) (sized : length B ≡ bound_most) (node : ℕ) (hn : node ≡ get_or f 1 0) where
  pub plain_node : node < length B
  plain_node = rw (sized, hn) (ltb-true (get_or f 1 0) bound_most (node_kind f e.atom.kind (λ p. omega arith) (λ p. omega arith) e.atom.variables))

  module _ (C : Bound) (g : C ≡ add B node) where
    pub plain_below : numbers_below (length C) (flat_map local_of (item_operands f)) ≡ true
    plain_below = rw (g, add_size B node plain_node, sized) (items_kind f e.atom.kind (rw h) e.atom.variables)

    pub plain_behind : (k : ℕ) (D : Bound) → D ≡ mark_all C (item_operands f) → D ≡ bound_behind B (lower B k (atom_of_frame f))
    plain_behind k D d = d ∙ rw (g, hn) (sym (plain_bound B k f h))

    pub plain_emits : (k : ℕ) (o p q : List ℕ) (at i r : ℕ) → PutsStep o at (join_of B k f) p i → PutsFrames p i (map frame_of (emit_read_children (get_or f 1 0) 0 C (item_operands f))) q r → r ≤ i + 4096 → Emits B k (atom_of_frame f) o at q r
    plain_emits k o p q at i r u v l = then_steps (join_of B k f) (emit_read_children (get_or f 1 0) 0 (add B (get_or f 1 0)) (item_operands f)) B k (atom_of_frame f) o p q at i r (plain_steps B k f h) u w l
      where
        w : PutsFrames p i (map frame_of (emit_read_children (get_or f 1 0) 0 (add B (get_or f 1 0)) (item_operands f))) q r
        w = rw (g, hn) at v

-- ---- the others

short_line : (b : List ℕ) → fixed_length (kind_of b) ≤ length b → length b ≤ 16 → (o q : List ℕ) (at r : ℕ) → PutsFrames o at (fixed_in b ∷ []) q r → r ≤ at + 33
unfolding text_length
short_line b l m o q at r u = omega (arith, u.next, length-take-le (fixed_length (kind_of b)) b l)

module _ (f : List ℕ) (e : Emittable f) (B : Bound) (k : ℕ) where
  pub collection_most : get_or f 0 0 < 15
  collection_most = omega (arith, atom_most f e)

  pub collection_emits : (o p q : List ℕ) (at i r : ℕ) → 6 < get_or f 0 0 → PutsStep o at (join_of B k f) p i → PutsFrames p i (map frame_of (behind_of (atom_of_frame f))) q r → r ≤ i + 4096 → Emits B k (atom_of_frame f) o at q r
  collection_emits o p q at i r h u v l = then_steps (join_of B k f) (behind_of (atom_of_frame f)) B k (atom_of_frame f) o p q at i r (collection_steps B k f e.atom.kind h) u v l

  pub literal_emits : (b : List ℕ) (o p q : List ℕ) (at i r : ℕ) → 1 < get_or f 0 0 → get_or f 0 0 < 4 → PutsStep o at (join_of B k f) p i → Begins b (map frame_of (behind_of (atom_of_frame f))) → PutsFrames p i (fixed_in b ∷ []) q r → Emits B k (atom_of_frame f) o at q r
  literal_emits b o p q at i r l m u z v = then_steps (join_of B k f) (behind_of (atom_of_frame f)) B k (atom_of_frame f) o p q at i r (literal_steps B k f e.atom.kind l m) u (subst (λ (x : List (List ℕ)). PutsFrames p i x q r) z.is v) (omega (arith, short_line b z.fits z.few p q i r v))

  module _ (l : 3 < get_or f 0 0) (m : get_or f 0 0 < 7) (o : List ℕ) (at : ℕ) where
    pub lone_waits : map frame_of (steps_of (lower B 0 (atom_of_frame f))) ≡ [] → Emits B k (atom_of_frame f) o at o at
    lone_waits h = record { puts = rw (lone_steps B k f e.atom.kind l m, h) (frames_none o at); near = omega arith }

    pub lone_emits : (b q : List ℕ) (r : ℕ) → Begins b (map frame_of (steps_of (lower B 0 (atom_of_frame f)))) → PutsFrames o at (fixed_in b ∷ []) q r → Emits B k (atom_of_frame f) o at q r
    lone_emits b q r z u = record { puts = rw (lone_steps B k f e.atom.kind l m, ← z.is) u; near = omega (arith, short_line b z.fits z.few o q at r u) }

pub literal_least : (f : List ℕ) → Emittable f → (get_or f 0 0 ≡ 1 → ⊥) → 1 < get_or f 0 0
literal_least f e h = let l = atom_least f e in omega arith

pub lowers_behind : (f : List ℕ) (B : Bound) (i : ℕ) (r : Bool) (C : Bound) → Lowers B (atom_of_frame f) r C → C ≡ bound_behind B (lower B i (atom_of_frame f))
lowers_behind f B i r C l = sym (l.bound i)
