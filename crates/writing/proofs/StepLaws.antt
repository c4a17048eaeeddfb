-- The atoms of an order in turn: their lines, and how many steps they are. Proved from what one atom gives.
use Prim.Native.Nat.{ℕ, ◌+◌, ◌*◌, ◌<◌, ◌≤◌}
use mathlib.Core.Path.{◌≡◌, refl, sym, ◌∙◌, ap, subst}
use mathlib.Core.List.{List, [], ◌∷◌, ◌++◌, map, append_assoc, append-nil, map-append}
use native.Mathlib.Omega.{arith}
use native.Mathlib.Numerals.{add-one}
use lib.ListN.{length, get_or, take, drop, length-take, drop_of_length-le}
use lib.Seq.{drop-cons, get_or-take}
use Rattle.frames.specs.Sheet.{frame_at}
use Rattle.records.specs.Atoms.{Atom}
use Rattle.records.specs.Bound.{Bound, bound_most}
use Rattle.records.specs.Lowering.{lower}
use Rattle.records.specs.Scheduling.{atom_of}
use Rattle.passes.specs.QueryAtoms.{atom_of_frame}
use Rattle.output.specs.PlanText.{text_of}
use Rattle.output.specs.StepFrames.{frame_of}
use Rattle.passes.specs.AtomLines.{AtomLine, bound_behind}
use Rattle.passes.specs.Eager.{sheet_atoms, Located}
use Rattle.output.specs.Written.{PutsFrames}
use Rattle.output.proofs.PutLaws.{written_size, frames_none, frames_then}
use Rattle.emitting.specs.Begun.{steps_of}
use Rattle.emitting.specs.Emitting.{Emits, Emittable}
use Rattle.writing.specs.Steps.{steps_along, step_count, count_along, Ordered, PutsSteps}

-- ---- one atom of the order

next_atom : (O : List ℕ) (count c k : ℕ) → c < length (take count O) → k ≡ get_or (take count O) c 0 → drop c (take count O) ≡ k ∷ drop (c + 1) (take count O)
next_atom O count c k h e = drop-cons (take count O) c 0 h ∙ rw (add-one c, e)

module _ (x from : List ℕ) (n : ℕ) (O : List ℕ) (count c k v : ℕ) (z : Located x from n) (y : Ordered x from n O count) (h : c < length (take count O)) (is : k ≡ get_or (take count O) c 0) (wide : v ≡ k) where
  before : c < count
  before = omega (arith, length-take count O)

  pub number : v < n
  number = rw (wide, is, get_or-take count O c 0 before) (y.below c before)

  module _ (l : List ℕ) (line : l ≡ frame_at x (get_or from v 0)) where
    pub line_ready : Emittable l
    line_ready = rw line (y.line v number)

    pub atom_ready : AtomLine l
    atom_ready = line_ready.atom

    atom_is : atom_of (sheet_atoms x) k ≡ atom_of_frame l
    atom_is = ap (atom_of (sheet_atoms x)) (sym wide) ∙ z.is v number ∙ ap (λ (s : List ℕ). atom_of_frame s) (sym line)

-- ---- how many steps

-- those of c atoms are added, and those left give the rest
pub record Adding (x O : List ℕ) (count sum c : ℕ) : Type 0 where
  pub few : c ≤ count
  pub small : sum ≤ 256 * c
  pub is : sum + count_along (atom_of (sheet_atoms x)) (drop c (take count O)) ≡ count_along (atom_of (sheet_atoms x)) (take count O)

pub adding_none : (x O : List ℕ) (count : ℕ) → Adding x O count 0 0
adding_none x O count = record { few = omega arith; small = omega arith; is = omega arith }

module _ (x O : List ℕ) (count sum c : ℕ) (m : Adding x O count sum c) where
  pub adding_again : (from : List ℕ) (n k v : ℕ) → Located x from n → Ordered x from n O count → c < length (take count O) → k ≡ get_or (take count O) c 0 → v ≡ k → (l : List ℕ) → l ≡ frame_at x (get_or from v 0) → (r : ℕ) → r ≡ step_count (atom_of_frame l) → r ≤ 256 → Adding x O count (sum + r) (c + 1)
  unfolding count_along
  adding_again from n k v z y h is wide l line r e s =
      let g : count_along (atom_of (sheet_atoms x)) (drop c (take count O)) ≡ r + count_along (atom_of (sheet_atoms x)) (drop (c + 1) (take count O)) = rw (next_atom O count c k h is, atom_is x from n O count c k v z y h is wide l line, e) in
      record { few = omega (arith, length-take count O); small = omega (arith, m.small); is = omega (arith, m.is) }

  pub added : length (take count O) ≤ c → sum ≡ count_along (atom_of (sheet_atoms x)) (take count O)
  unfolding count_along
  added h =
      let g : sum + 0 ≡ count_along (atom_of (sheet_atoms x)) (take count O) = rw (drop_of_length-le (take count O) h) at m.is in
      omega arith

  pub added_few : (from : List ℕ) (n : ℕ) → Ordered x from n O count → sum ≤ 0x4000
  added_few from n y = omega (arith, m.small, m.few, y.few)

-- ---- the lines

along_more : (atomAt : ℕ → Atom) (B C : Bound) (k : ℕ) (ks : List ℕ) (a : Atom) → atomAt k ≡ a → C ≡ bound_behind B (lower B k a) → map frame_of (steps_along atomAt B (k ∷ ks)) ≡ map frame_of (steps_of (lower B k a)) ++ map frame_of (steps_along atomAt C ks)
unfolding steps_along
along_more atomAt B C k ks a h e = rw (h, e) (map-append frame_of (steps_of (lower B k a)) (steps_along atomAt (bound_behind B (lower B k a)) ks))

abbrev lines_of : List ℕ → Bound → List ℕ → List (List ℕ)
lines_of x B ks = map frame_of (steps_along (atom_of (sheet_atoms x)) B ks)

-- the lines of c atoms are put, and those left give the rest
pub record Writing (x O : List ℕ) (count : ℕ) (B₀ : Bound) (o₀ : List ℕ) (from : ℕ) (B : Bound) (o : List ℕ) (at c : ℕ) : Type 0 where
  pub few : c ≤ count
  pub room : at ≤ from + 8192 * c
  pub bound : length B ≡ length B₀
  pub size : length o ≡ length o₀
  pub done : List (List ℕ)
  pub puts : PutsFrames o₀ from done o at
  pub rest : done ++ lines_of x B (drop c (take count O)) ≡ lines_of x B₀ (take count O)

pub writing_none : (x O : List ℕ) (count : ℕ) (B : Bound) (o : List ℕ) (from : ℕ) → Writing x O count B o from B o from 0
writing_none x O count B o from = record { few = omega arith; room = omega arith; bound = refl; size = refl; done = []; puts = frames_none o from; rest = refl }

module _ (x O : List ℕ) (count : ℕ) (B₀ : Bound) (o₀ : List ℕ) (start : ℕ) (B : Bound) (o : List ℕ) (at c : ℕ) (m : Writing x O count B₀ o₀ start B o at c) where
  pub bound_sized : length B₀ ≡ bound_most → length B ≡ bound_most
  bound_sized h = m.bound ∙ h

  pub writing_again : (from : List ℕ) (n k v : ℕ) → Located x from n → Ordered x from n O count → c < length (take count O) → k ≡ get_or (take count O) c 0 → v ≡ k → (l : List ℕ) → l ≡ frame_at x (get_or from v 0) → (C : Bound) (q : List ℕ) (r : ℕ) → length C ≡ length B → C ≡ bound_behind B (lower B k (atom_of_frame l)) → Emits B k (atom_of_frame l) o at q r → Writing x O count B₀ o₀ start C q r (c + 1)
  writing_again from n k v z y h is wide l line C q r s e u = record {
    few = omega (arith, length-take count O);
    room = omega (arith, m.room, u.near);
    bound = s ∙ m.bound;
    size = ap length u.puts.is ∙ written_size o at (text_of F) ∙ m.size;
    done = m.done ++ F;
    puts = frames_then m.done F m.puts u.puts;
    rest = append_assoc m.done F (lines_of x C (drop (c + 1) (take count O))) ∙ ap (λ (w : List (List ℕ)). m.done ++ w) (sym more) ∙ m.rest;
  }
    where
      F : List (List ℕ)
      F = map frame_of (steps_of (lower B k (atom_of_frame l)))

      more : lines_of x B (drop c (take count O)) ≡ F ++ lines_of x C (drop (c + 1) (take count O))
      more = ap (lines_of x B) (next_atom O count c k h is) ∙ along_more (atom_of (sheet_atoms x)) B C k (drop (c + 1) (take count O)) (atom_of_frame l) (atom_is x from n O count c k v z y h is wide l line) e

  pub steps_put : (from : List ℕ) (n : ℕ) → Ordered x from n O count → length (take count O) ≤ c → PutsSteps x B₀ (take count O) o₀ start o at
  unfolding steps_along
  steps_put from n y h = record { puts = subst (λ (w : List (List ℕ)). PutsFrames o₀ start w o at) (sym (append-nil m.done) ∙ d) m.puts; near = omega (arith, m.room, m.few, y.few) }
    where
      d : m.done ++ [] ≡ lines_of x B₀ (take count O)
      d = rw (drop_of_length-le (take count O) h) at m.rest
