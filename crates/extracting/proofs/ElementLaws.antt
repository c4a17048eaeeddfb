-- The items of the steps 47, 48 and 49, and these steps' lines. Proved item by item.
use Prim.Native.Nat.{ℕ, suc, ◌+◌, ◌-◌, ◌*◌, ◌<◌, ◌≤◌}
use mathlib.Core.Path.{◌≡◌, refl, sym, ◌∙◌, ap, subst}
use mathlib.Core.List.{List, [], ◌∷◌, ◌++◌, map, append_assoc, append-nil}
use native.Mathlib.Omega.{arith}
use lib.ListN.{length, get_or, take}
use lib.Seq.{length-take-le}
use Rattle.hexadecimal.specs.Digits.{digits_of}
use Rattle.kinds.specs.Fields.{width}
use Rattle.kinds.specs.Kinds.{kind_at, fixed_length, items_of}
use Rattle.frames.specs.Frames.{kind_of}
use Rattle.output.specs.Limits.{line_end}
use Rattle.binding.specs.QueryAtoms.{atom_of_frame}
use Rattle.output.specs.Lookups.{operand_at}
use Rattle.output.specs.StepFrames.{tag_of, index_of, frame_of}
use Rattle.output.specs.Written.{Puts, PutsBytes, PutsFrames}
use Rattle.output.proofs.PutLaws.{written_size, bytes_none, bytes_then, line_put}
use Rattle.step_bytes.specs.Pieces.{item_bytes, items_bytes}
use Rattle.step_bytes.specs.Begun.{behind_of, Opens}

-- ---- n items

-- k items are put, and those left give the rest
pub record Listing (f : List ℕ) (w : ℕ) (o₀ : List ℕ) (from n : ℕ) (o : List ℕ) (j at k : ℕ) : Type 0 where
  pub narrow : w ≤ 3
  pub many : n ≡ items_of (kind_of f) f
  pub small : n < 256
  pub few : k ≤ n
  pub place : j ≤ 15 + 3 * k
  pub room : at ≤ from + 6 * k
  pub size : length o ≡ length o₀
  pub done : List ℕ
  pub puts : PutsBytes o₀ from done o at
  pub rest : done ++ items_bytes w f j (n - k) ≡ items_bytes w f (fixed_length (kind_of f)) n

pub listing_none : (f : List ℕ) (w : ℕ) (o : List ℕ) (from n kind j : ℕ) → w ≤ 3 → n ≡ items_of (kind_of f) f → n < 256 → kind ≡ get_or f 0 0 → j ≡ fixed_length (kind_at kind) → j < 16 → Listing f w o from n o j from 0
listing_none f w o from n kind j l hn ln is hj lj =
    let e : n - 0 ≡ n = omega arith in
    let g : j ≡ fixed_length (kind_of f) = rw (hj, is) in
    record { narrow = l; many = hn; small = ln; few = omega arith; place = omega arith; room = omega arith; size = refl; done = []; puts = bytes_none o from; rest = rw (e, g) }

module _ (f : List ℕ) (w : ℕ) (o₀ : List ℕ) (from n : ℕ) (o : List ℕ) (j at k : ℕ) (m : Listing f w o₀ from n o j at k) where
  module _ (x : List ℕ) (e : x ≡ tag_of (operand_at f j) ∷ index_of (operand_at f j) ∷ get_or f (j + 2) 0 ∷ []) where
    pub item_fits : w ≤ length x
    item_fits = omega (arith, m.narrow, ap length e)

    pub listing_again : (q : List ℕ) (r : ℕ) → k < n → PutsBytes o at (take w x) q r → Listing f w o₀ from n q (j + w) r (k + 1)
    unfolding items_bytes
    listing_again q r h v = record {
      narrow = m.narrow;
      many = m.many;
      small = m.small;
      few = omega arith;
      place = omega (arith, m.place, m.narrow);
      room = omega (arith, m.room, m.narrow, v.next, length-take-le w x item_fits);
      size = ap length u.is ∙ written_size o at (digits_of (item_bytes w f j)) ∙ m.size;
      done = m.done ++ item_bytes w f j;
      puts = bytes_then m.done (item_bytes w f j) m.puts u;
      rest = append_assoc m.done (item_bytes w f j) (items_bytes w f (j + w) (n - (k + 1))) ∙ ap (λ (y : List ℕ). m.done ++ y) (sym more) ∙ m.rest;
    }
      where
        u : PutsBytes o at (item_bytes w f j) q r
        u = rw e at v

        more : items_bytes w f j (n - k) ≡ item_bytes w f j ++ items_bytes w f (j + w) (n - (k + 1))
        more = let g : n - k ≡ suc (n - (k + 1)) = omega arith in rw g

  module _ (h : n ≤ k) where
    pub listed : PutsBytes o₀ from (items_bytes w f (fixed_length (kind_of f)) (items_of (kind_of f) f)) o at
    unfolding items_bytes
    listed =
        let e : n - k ≡ 0 = omega arith in
        let d : m.done ++ [] ≡ items_bytes w f (fixed_length (kind_of f)) n = rw e at m.rest in
        rw (← m.many) (subst (λ (x : List ℕ). PutsBytes o₀ from x o at) (sym (append-nil m.done) ∙ d) m.puts)

    pub listed_room : at ≤ from + 2048
    listed_room = omega (arith, m.room, m.few, m.small)

-- ---- the line

module _ (f b : List ℕ) (z : Opens f b) (n : ℕ) (hn : n ≡ fixed_length (kind_of b)) where
  pub part_fits : n ≤ length b
  part_fits = omega (arith, z.fits)

  module _ (o p : List ℕ) (at a : ℕ) (u : PutsBytes o at (take n b) p a) where
    near : a ≤ at + 32
    near = omega (arith, u.next, z.few, length-take-le n b part_fits)

    pub part_near : at < 0x2000_0000 → a < 0x2800_0000
    part_near l = omega (arith, near)

    pub items_near : (c : ℕ) → at < 0x2000_0000 → c ≤ a + 2048 → c < 0x8000_0000
    items_near c l m = omega (arith, near)

    pub line_near : (s q : List ℕ) (c r : ℕ) → c ≤ a + 2048 → Puts s c (line_end ∷ []) q r → r ≤ at + 4096
    line_near s q c r m e = omega (arith, near, e.next)

    pub opened : (w : ℕ) (s q : List ℕ) (c r : ℕ) → w ≡ width (kind_of b).item → PutsBytes p a (items_bytes w f (fixed_length (kind_of f)) (items_of (kind_of f) f)) s c → Puts s c (line_end ∷ []) q r → PutsFrames o at (map frame_of (behind_of (atom_of_frame f))) q r
    opened w s q c r hw v e = subst (λ (x : List (List ℕ)). PutsFrames o at x q r) whole (line_put (take n b ++ items_bytes w f (fixed_length (kind_of f)) (items_of (kind_of f) f)) (bytes_then (take n b) (items_bytes w f (fixed_length (kind_of f)) (items_of (kind_of f) f)) u v) e)
      where
        whole : (take n b ++ items_bytes w f (fixed_length (kind_of f)) (items_of (kind_of f) f)) ∷ [] ≡ map frame_of (behind_of (atom_of_frame f))
        whole = rw (hn, hw) z.is
