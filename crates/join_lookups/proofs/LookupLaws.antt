-- The lookups of a Join, operand by operand. Proved by induction on how many.
use Prim.Native.Nat.{ℕ, ◌+◌, ◌-◌, ◌*◌, ◌<◌, ◌≤◌}
use mathlib.Core.Path.{◌≡◌, refl, sym, ◌∙◌, ap, subst}
use mathlib.Core.Bool.{Bool, true, false}
use mathlib.Core.List.{List, [], ◌∷◌, ◌++◌, flat_map, append_assoc, append-nil}
use native.Mathlib.Omega.{arith}
use native.Mathlib.Numerals.{add-one}
use lib.Dec.{eqb}
use lib.ListN.{length, get_or, take}
use lib.Seq.{take_all}
use Rattle.hexadecimal.specs.Digits.{digits_of}
use Rattle.kinds.specs.Fields.{width}
use Rattle.kinds.specs.Kinds.{kinds, kind_at, fixed_length, items_of}
use Rattle.frames.specs.Frames.{kind_of}
use Rattle.output.specs.Atoms.{Operand, Lookup}
use Rattle.binding.specs.Bound.{Bound}
use Rattle.output.specs.Lists.{one}
use Rattle.binding.specs.Lowering.{pv_is_bound, child_lookups, contains_lookups}
use Rattle.binding.specs.QueryAtoms.{operands_from}
use Rattle.output.specs.Lookups.{operand_at}
use Rattle.output.specs.StepFrames.{lookup_bytes}
use Rattle.output.proofs.StepsRead.{lookup_wide}
use Rattle.binding.proofs.OperandLaws.{operands_more}
use Rattle.output.specs.Written.{PutsBytes}
use Rattle.output.proofs.PutLaws.{written_size, bytes_none, bytes_then}
use Rattle.step_bytes.specs.Pieces.{lookups_of, lookup_for}
use Rattle.step_bytes.proofs.PieceLaws.{Placed, placed_items}
use Rattle.join_lookups.specs.OperandLookups.{operand_lookups}

lookups_none : (plain : Bool) (B : Bound) (i : ℕ) → lookups_of plain B i [] ≡ []
unfolding child_lookups contains_lookups
lookups_none true B i = refl
lookups_none false B i = refl

lookups_more : (plain : Bool) (B : Bound) (i : ℕ) (c : Operand) (cs : List Operand) → lookups_of plain B i (c ∷ cs) ≡ one (pv_is_bound B c) (lookup_for plain c i) ++ lookups_of plain B (i + 1) cs
unfolding child_lookups contains_lookups
lookups_more true B i c cs = rw (add-one i)
lookups_more false B i c cs = refl

-- the lookups of the operands from the k-th on
abbrev pub left_from : Bool → List ℕ → ℕ → ℕ → ℕ → Bound → ℕ → List Lookup
left_from plain f i w n B k = lookups_of plain B k (operands_from f (i + w * k) w (n - k))

left_more : (plain : Bool) (f : List ℕ) (i w n : ℕ) (B : Bound) (k : ℕ) → k < n → left_from plain f i w n B k ≡ one (pv_is_bound B (operand_at f (i + w * k))) (lookup_for plain (operand_at f (i + w * k)) k) ++ left_from plain f i w n B (k + 1)
left_more plain f i w n B k h = ap (λ (x : List Operand). lookups_of plain B k x) (operands_more f i w n k h) ∙ lookups_more plain B k (operand_at f (i + w * k)) (operands_from f (i + w * (k + 1)) w (n - (k + 1)))

left_none : (plain : Bool) (f : List ℕ) (i w n : ℕ) (B : Bound) (k : ℕ) → n ≤ k → left_from plain f i w n B k ≡ []
unfolding operands_from
left_none plain f i w n B k h = let e : n - k ≡ 0 = omega arith in rw e (lookups_none plain B k)

left_all : (f : List ℕ) (kind i w n : ℕ) (B : Bound) → Placed f kind i w n → left_from (eqb kind 1) f i w n B 0 ≡ operand_lookups B f
left_all f kind i w n B z =
    let e : n - 0 ≡ n = omega arith in
    let g : i + w * 0 ≡ i = omega arith in
    rw (e, g, placed_items f kind i w n z, z.is)

module _ (f : List ℕ) (plain : Bool) (i w n : ℕ) (B : Bound) (k : ℕ) (h : k < n) (t : Bool) (is : t ≡ pv_is_bound B (operand_at f (i + w * k))) where
  left_free : t ≡ false → left_from plain f i w n B k ≡ left_from plain f i w n B (k + 1)
  left_free q = rw (sym is ∙ q) at (left_more plain f i w n B k h)

  left_bound : t ≡ true → left_from plain f i w n B k ≡ lookup_for plain (operand_at f (i + w * k)) k ∷ left_from plain f i w n B (k + 1)
  left_bound q = rw (sym is ∙ q) at (left_more plain f i w n B k h)

-- ---- how many

pub record Counting (f : List ℕ) (B : Bound) (kind i w n count k : ℕ) : Type 0 where
  pub placed : Placed f kind i w n
  pub few : k ≤ n
  pub place : w * k ≤ 15 * k
  pub small : count ≤ k
  pub is : count + length (left_from (eqb kind 1) f i w n B k) ≡ length (operand_lookups B f)

pub counting_none : (f : List ℕ) (B : Bound) (kind i w n : ℕ) → kind ≡ get_or f 0 0 → i ≡ fixed_length (kind_at kind) → i < 16 → w ≡ width (kind_at kind).item → w < 16 → n ≡ items_of (kind_of f) f → n < 256 → Counting f B kind i w n 0 0
counting_none f B kind i w n p hi li hw lw hn ln =
    let z : Placed f kind i w n = record { is = p; first = hi; wide = hw; many = hn; near = li; narrow = lw; few = ln } in
    record { placed = z; few = omega arith; place = omega arith; small = omega arith; is = omega (arith, ap length (left_all f kind i w n B z)) }

module _ (f : List ℕ) (B : Bound) (kind i w n count k : ℕ) (m : Counting f B kind i w n count k) where
  module _ (h : k < n) (t : Bool) (is : t ≡ pv_is_bound B (operand_at f (i + w * k))) where
    pub count_free : t ≡ false → Counting f B kind i w n count (k + 1)
    count_free q = record { placed = m.placed; few = omega arith; place = omega (arith, m.place, m.placed.narrow); small = omega (arith, m.small); is = omega (arith, m.is, ap length (left_free f (eqb kind 1) i w n B k h t is q)) }

    pub count_one : t ≡ true → Counting f B kind i w n (count + 1) (k + 1)
    count_one q = record { placed = m.placed; few = omega arith; place = omega (arith, m.place, m.placed.narrow); small = omega (arith, m.small); is = omega (arith, m.is, ap length (left_bound f (eqb kind 1) i w n B k h t is q)) }

  module _ (h : n ≤ k) where
    pub counted : count ≡ length (operand_lookups B f)
    counted = omega (arith, m.is, ap length (left_none (eqb kind 1) f i w n B k h))

    pub counted_few : count ≤ items_of (kind_of f) f
    counted_few = omega (arith, m.small, m.few, m.placed.many)

-- ---- one lookup

-- its width
module _ (x : List ℕ) (l : Lookup) (e : x ≡ lookup_bytes l) (v : ℕ) (hv : v ≡ width (kind_at 0x40).item) where
  whole : v ≡ length x
  unfolding kind_at kinds
  whole = rw (hv, e) (sym (lookup_wide l))

  pub lookup_fits_lem : v ≤ length x
  lookup_fits_lem = omega (arith, whole)

  lookup_put : (o q : List ℕ) (at r : ℕ) → PutsBytes o at (take v x) q r → PutsBytes o at x q r
  lookup_put o q at r u = subst (λ (y : List ℕ). PutsBytes o at y q r) (take_all v x (omega (arith, whole))) u

-- ---- all of them

-- k operands are looked at, and those left give the rest
pub record Looking (f : List ℕ) (B : Bound) (o₀ : List ℕ) (from kind i w n : ℕ) (o : List ℕ) (at k : ℕ) : Type 0 where
  pub placed : Placed f kind i w n
  pub few : k ≤ n
  pub place : w * k ≤ 15 * k
  pub room : at ≤ from + 8 * k
  pub size : length o ≡ length o₀
  pub done : List ℕ
  pub puts : PutsBytes o₀ from done o at
  pub rest : done ++ flat_map lookup_bytes (left_from (eqb kind 1) f i w n B k) ≡ flat_map lookup_bytes (operand_lookups B f)

pub looking_none : (f : List ℕ) (B : Bound) (o : List ℕ) (from kind i w n : ℕ) → kind ≡ get_or f 0 0 → i ≡ fixed_length (kind_at kind) → i < 16 → w ≡ width (kind_at kind).item → w < 16 → n ≡ items_of (kind_of f) f → n < 256 → Looking f B o from kind i w n o from 0
looking_none f B o from kind i w n p hi li hw lw hn ln =
    let z : Placed f kind i w n = record { is = p; first = hi; wide = hw; many = hn; near = li; narrow = lw; few = ln } in
    record { placed = z; few = omega arith; place = omega arith; room = omega arith; size = refl; done = []; puts = bytes_none o from; rest = ap (flat_map lookup_bytes) (left_all f kind i w n B z) }

module _ (f : List ℕ) (B : Bound) (o₀ : List ℕ) (from kind i w n : ℕ) (o : List ℕ) (at k : ℕ) (m : Looking f B o₀ from kind i w n o at k) where
  module _ (h : k < n) (t : Bool) (is : t ≡ pv_is_bound B (operand_at f (i + w * k))) where
    pub look_free : t ≡ false → Looking f B o₀ from kind i w n o at (k + 1)
    look_free q = record { placed = m.placed; few = omega arith; place = omega (arith, m.place, m.placed.narrow); room = omega (arith, m.room); size = m.size; done = m.done; puts = m.puts; rest = ap (λ (x : List Lookup). m.done ++ flat_map lookup_bytes x) (sym (left_free f (eqb kind 1) i w n B k h t is q)) ∙ m.rest }

    pub look_bound : (x q : List ℕ) (r v : ℕ) → t ≡ true → x ≡ lookup_bytes (lookup_for (eqb kind 1) (operand_at f (i + w * k)) k) → v ≡ width (kind_at 0x40).item → PutsBytes o at (take v x) q r → Looking f B o₀ from kind i w n q r (k + 1)
    unfolding flat_map
    look_bound x q r v g e hv z = record {
      placed = m.placed;
      few = omega arith;
      place = omega (arith, m.place, m.placed.narrow);
      room = omega (arith, m.room, u.next, ap length e, lookup_wide (lookup_for (eqb kind 1) (operand_at f (i + w * k)) k));
      size = ap length u.is ∙ written_size o at (digits_of x) ∙ m.size;
      done = m.done ++ x;
      puts = bytes_then m.done x m.puts u;
      rest = append_assoc m.done x (flat_map lookup_bytes (left_from (eqb kind 1) f i w n B (k + 1))) ∙ ap (λ (y : List ℕ). m.done ++ y) more ∙ m.rest;
    }
      where
        u : PutsBytes o at x q r
        u = lookup_put x (lookup_for (eqb kind 1) (operand_at f (i + w * k)) k) e v hv o q at r z

        more : x ++ flat_map lookup_bytes (left_from (eqb kind 1) f i w n B (k + 1)) ≡ flat_map lookup_bytes (left_from (eqb kind 1) f i w n B k)
        more = rw e (sym (ap (flat_map lookup_bytes) (left_bound f (eqb kind 1) i w n B k h t is g)))

  module _ (h : n ≤ k) where
    pub looked : PutsBytes o₀ from (flat_map lookup_bytes (operand_lookups B f)) o at
    unfolding flat_map
    looked =
        let d : m.done ++ [] ≡ flat_map lookup_bytes (operand_lookups B f) = ap (λ (x : List Lookup). m.done ++ flat_map lookup_bytes x) (sym (left_none (eqb kind 1) f i w n B k h)) ∙ m.rest in
        subst (λ (x : List ℕ). PutsBytes o₀ from x o at) (sym (append-nil m.done) ∙ d) m.puts

    pub looked_room : at ≤ from + 2048
    looked_room = omega (arith, m.room, m.few, m.placed.few)
