-- The steps that read a Plain's children. Proved child by child.
use Prim.Native.Nat.{ℕ, ◌+◌, ◌-◌, ◌*◌, ◌<◌, ◌≤◌}
use mathlib.Core.Path.{◌≡◌, refl, sym, ◌∙◌, ap, subst}
use mathlib.Core.Bool.{Bool, true, false}
use mathlib.Core.List.{List, [], ◌∷◌, ◌++◌, map, map-append, flat_map, append_assoc, append-nil}
use native.Mathlib.Omega.{arith}
use native.Mathlib.Numerals.{add-one}
use lib.ListN.{length, get_or}
use Rattle.kinds.specs.Fields.{width}
use Rattle.kinds.specs.Kinds.{kind_at, fixed_length, items_of}
use Rattle.frames.specs.Frames.{kind_of}
use Rattle.output.specs.Atoms.{Operand, local, global, wild, local_of}
use Rattle.binding.specs.Bound.{Bound}
use Rattle.binding.specs.Lowering.{pv_is_bound, pv_mark_bound, mark_all, read_child, emit_read_children}
use Rattle.binding.specs.Premises.{numbers_below}
use Rattle.binding.specs.QueryAtoms.{operands_from}
use Rattle.output.specs.Lookups.{operand_at}
use Rattle.output.specs.StepFrames.{frame_of}
use Rattle.output.specs.PlanText.{text_of, text_length}
use Rattle.binding.specs.ItemOperands.{item_operands}
use Rattle.binding.proofs.OperandLaws.{Marked, marked_none, marked_again, marked_all, next_below, operands_more}
use Rattle.output.specs.Written.{fixed_in, PutsFrames}
use Rattle.output.proofs.PutLaws.{written_size, frames_none, frames_then}
use Rattle.step_bytes.specs.Begun.{Begins}
use Rattle.step_bytes.proofs.PieceLaws.{Placed, placed_items}

child_short : (c : Operand) (t : Bool) (n i : ℕ) → text_length (map frame_of (read_child n i t c)) ≤ 11
unfolding frame_of text_length
child_short (local v) true n i = omega arith
child_short (local v) false n i = omega arith
child_short (global g) t n i = omega arith
child_short wild t n i = omega arith

pub begun_put : (b : List ℕ) (fs : List (List ℕ)) (o q : List ℕ) (at r : ℕ) → Begins b fs → PutsFrames o at (fixed_in b ∷ []) q r → PutsFrames o at fs q r
begun_put b fs o q at r e u = subst (λ (x : List (List ℕ)). PutsFrames o at x q r) e.is u

-- the steps of the children from the k-th on
abbrev pub children_from : List ℕ → ℕ → ℕ → ℕ → Bound → ℕ → List (List ℕ)
children_from f i w n B k = map frame_of (emit_read_children (get_or f 1 0) k B (operands_from f (i + w * k) w (n - k)))

-- k children are read, and those left give the rest
pub record Reading (f : List ℕ) (B₀ : Bound) (o₀ : List ℕ) (from kind i w n : ℕ) (B : Bound) (o : List ℕ) (at k : ℕ) : Type 0 where
  pub placed : Placed f kind i w n
  pub marked : Marked f i w n B₀ B k
  pub place : w * k ≤ 15 * k
  pub room : at ≤ from + 16 * k
  pub size : length o ≡ length o₀
  pub done : List (List ℕ)
  pub puts : PutsFrames o₀ from done o at
  pub rest : done ++ children_from f i w n B k ≡ map frame_of (emit_read_children (get_or f 1 0) 0 B₀ (item_operands f))

pub reading_none : (f : List ℕ) (B : Bound) (o : List ℕ) (from kind i w n : ℕ) → numbers_below (length B) (flat_map local_of (item_operands f)) ≡ true → kind ≡ get_or f 0 0 → i ≡ fixed_length (kind_at kind) → i < 16 → w ≡ width (kind_at kind).item → w < 16 → n ≡ items_of (kind_of f) f → n < 256 → Reading f B o from kind i w n B o from 0
reading_none f B o from kind i w n h p hi li hw lw hn ln =
    let z : Placed f kind i w n = record { is = p; first = hi; wide = hw; many = hn; near = li; narrow = lw; few = ln } in
    let e : n - 0 ≡ n = omega arith in
    let g : i + w * 0 ≡ i = omega arith in
    record { placed = z; marked = marked_none f i w n B (omega arith) (rw (placed_items f kind i w n z) h); place = omega arith; room = omega arith; size = refl; done = []; puts = frames_none o from; rest = rw (e, g, placed_items f kind i w n z) }

module _ (f : List ℕ) (B₀ : Bound) (o₀ : List ℕ) (from kind i w n : ℕ) (B : Bound) (o : List ℕ) (at k : ℕ) (m : Reading f B₀ o₀ from kind i w n B o at k) where
  pub child_below : k < n → numbers_below (length B) (local_of (operand_at f (i + w * k))) ≡ true
  child_below h = next_below f i w n B₀ B k m.marked h

  pub reading_again : (C : Bound) (q : List ℕ) (r : ℕ) → k < n → C ≡ pv_mark_bound B (operand_at f (i + w * k)) → PutsFrames o at (map frame_of (read_child (get_or f 1 0) k (pv_is_bound B (operand_at f (i + w * k))) (operand_at f (i + w * k)))) q r → Reading f B₀ o₀ from kind i w n C q r (k + 1)
  unfolding emit_read_children
  reading_again C q r h e u = record {
    placed = m.placed;
    marked = marked_again f i w n B₀ B k m.marked C (omega (arith, m.placed.narrow)) h e;
    place = omega (arith, m.place, m.placed.narrow);
    room = omega (arith, m.room, u.next, child_short c (pv_is_bound B c) (get_or f 1 0) k);
    size = ap length u.is ∙ written_size o at (text_of F) ∙ m.size;
    done = m.done ++ F;
    puts = frames_then m.done F m.puts u;
    rest = append_assoc m.done F (children_from f i w n C (k + 1)) ∙ ap (λ (x : List (List ℕ)). m.done ++ x) (sym more) ∙ m.rest;
  }
    where
      c : Operand
      c = operand_at f (i + w * k)

      F : List (List ℕ)
      F = map frame_of (read_child (get_or f 1 0) k (pv_is_bound B c) c)

      more : children_from f i w n B k ≡ F ++ children_from f i w n C (k + 1)
      more = rw (operands_more f i w n k h, e, add-one k) (map-append frame_of (read_child (get_or f 1 0) k (pv_is_bound B c) c) _)

  module _ (h : n ≤ k) where
    pub reading_all : PutsFrames o₀ from (map frame_of (emit_read_children (get_or f 1 0) 0 B₀ (item_operands f))) o at
    unfolding emit_read_children operands_from
    reading_all =
        let e : n - k ≡ 0 = omega arith in
        let d : m.done ++ [] ≡ map frame_of (emit_read_children (get_or f 1 0) 0 B₀ (item_operands f)) = rw e at m.rest in
        subst (λ (x : List (List ℕ)). PutsFrames o₀ from x o at) (sym (append-nil m.done) ∙ d) m.puts

    pub children_marked : B ≡ mark_all B₀ (item_operands f)
    children_marked = marked_all f i w n B₀ B k m.marked h ∙ ap (mark_all B₀) (placed_items f kind i w n m.placed)

    pub children_room : at ≤ from + 4096
    children_room = omega (arith, m.room, m.marked.few, m.placed.few)
