-- The header's bytes, and how many steps an atom becomes, by its kind. Proved byte by byte, and kind by kind.
use Prim.Native.Nat.{ℕ, zero, suc, ◌+◌, ◌/◌, ◌%◌, ◌<◌, ◌≤◌}
use mathlib.Core.Path.{◌≡◌, refl, sym, ◌∙◌, ap}
use mathlib.Core.Bool.{Bool, true, false}
use mathlib.Core.List.{List, [], ◌∷◌}
use native.Mathlib.Omega.{arith}
use lib.Dec.{eqb, ltb}
use lib.ListN.{length, get_or}
use borrow.Author.Tests.{lt-ltb, le-ltb, eq-eqb, ne_eqb}
use Rattle.hexadecimal.specs.Choose.{pick}
use Rattle.records.specs.Faults.{is_atom}
use Rattle.frames.specs.Kinds.{kinds, kind_at, fixed_length, items_of}
use Rattle.frames.specs.Frames.{kind_of}
use Rattle.records.specs.Atoms.{local, global}
use Rattle.passes.specs.QueryAtoms.{operands_from, atom_of_frame}
use Rattle.output.specs.StepFrames.{header_of}
use Rattle.passes.specs.AtomLines.{AtomLine}
use Rattle.passes.proofs.AtomLaws.{by_kind}
use Rattle.output.specs.Written.{fixed_in, PutsFrames}
use Rattle.writing.specs.Steps.{read_count, step_count}

-- ---- the header

pub header_is : (v g n x y z xh xl yh yl zh zl : ℕ) → xh ≡ x / 0x100 → xl ≡ x % 0x100 → yh ≡ y / 0x100 → yl ≡ y % 0x100 → zh ≡ z / 0x100 → zl ≡ z % 0x100 → 0x3f ∷ v ∷ g ∷ n ∷ xh ∷ xl ∷ yh ∷ yl ∷ zh ∷ zl ∷ [] ≡ header_of v g n x y z
header_is v g n x y z xh xl yh yl zh zl a b c d e f = rw (← a, ← b, ← c, ← d, ← e, ← f)

module _ (v g n x y z : ℕ) (b : List ℕ) (is : b ≡ header_of v g n x y z) where
  pub header_fits : fixed_length (kind_of b) ≤ length b
  unfolding kind_at kinds
  header_fits = rw is (omega arith)

  pub header_put : (o q : List ℕ) (at r : ℕ) → PutsFrames o at (fixed_in b ∷ []) q r → PutsFrames o at (header_of v g n x y z ∷ []) q r
  unfolding kind_at kinds
  header_put o q at r u = rw is at u

-- ---- how many steps

abbrev count_kind : List ℕ → ℕ
count_kind f = pick (eqb (get_or f 0 0) 1) (suc (get_or f 3 0)) (pick (ltb (get_or f 0 0) 4) 2 (pick (ltb (get_or f 0 0) 7) 1 2))

-- every operand of a frame is read
operands_read : (f : List ℕ) (i w n : ℕ) → read_count (operands_from f i w n) ≡ n
unfolding read_count operands_from
operands_read f i w zero = refl
operands_read f i w (suc n) = by (eqb (get_or f i 0) 0) (operands_read f (i + w) w n)
  where
    by : (b : Bool) → read_count (operands_from f (i + w) w n) ≡ n → read_count (pick b (local (get_or f (i + 1) 0)) (global (get_or f (i + 1) 0)) ∷ operands_from f (i + w) w n) ≡ suc n
    by true h = ap suc h
    by false h = ap suc h

count_kind_lem : (f : List ℕ) → is_atom (get_or f 0 0) ≡ true → count_kind f ≡ step_count (atom_of_frame f)
unfolding atom_of_frame
count_kind_lem = by_kind (λ f. count_kind f ≡ step_count (atom_of_frame f)) (λ r. ap suc (sym (operands_read (0x01 ∷ r) 4 2 (get_or r 2 0)))) (λ r. refl) (λ r. refl) (λ r. refl) (λ r. refl) (λ r. refl) (λ r. refl) (λ r. refl) (λ r. refl) (λ r. refl) (λ r. refl) (λ r. refl) (λ r. refl) (λ r. refl)

module _ (f : List ℕ) (k : ℕ) (is : k ≡ get_or f 0 0) (line : AtomLine f) where
  pub count_plain : (n : ℕ) → n ≡ items_of (kind_of f) f → k ≡ 1 → n + 1 ≡ step_count (atom_of_frame f)
  unfolding kind_at kinds
  count_plain n hn h =
      let m : n ≡ get_or f 3 0 = rw (← is, h) at hn in
      let e : n + 1 ≡ suc (get_or f 3 0) = omega arith in
      e ∙ rw (← count_kind_lem f line.kind, ← is, eq-eqb k 1 h)

  pub count_alone : 4 ≤ k → k ≤ 6 → 1 ≡ step_count (atom_of_frame f)
  count_alone l m = rw (← count_kind_lem f line.kind, ← is, ne_eqb k 1 (λ p. omega arith), le-ltb k 4 l, lt-ltb k 7 (omega arith))

  pub count_few : (k ≡ 1 → ⊥) → k < 4 → 2 ≡ step_count (atom_of_frame f)
  count_few p l = rw (← count_kind_lem f line.kind, ← is, ne_eqb k 1 p, lt-ltb k 4 l)

  pub count_collection : 6 < k → 2 ≡ step_count (atom_of_frame f)
  count_collection l = rw (← count_kind_lem f line.kind, ← is, ne_eqb k 1 (λ p. omega arith), le-ltb k 4 (omega arith), le-ltb k 7 (omega arith))
