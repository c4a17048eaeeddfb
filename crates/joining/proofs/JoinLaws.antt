-- The line of a Join, by whether its node is bound and whether an operand is. Proved from its pieces in turn.
use Prim.Native.Nat.{ℕ, suc, ◌+◌, ◌<◌, ◌≤◌}
use mathlib.Core.Path.{◌≡◌, refl, sym, ◌∙◌}
use mathlib.Core.Bool.{Bool, true, false}
use mathlib.Core.List.{List, [], ◌∷◌, flat_map}
use native.Mathlib.Omega.{arith}
use lib.ListN.{length, get_or, take}
use Rattle.kinds.specs.Fields.{width}
use Rattle.kinds.specs.Kinds.{kinds, kind_at, fixed_length}
use Rattle.output.specs.Frames.{frame_length}
use Rattle.output.specs.Sheet.{frame_at}
use Rattle.output.specs.Atoms.{Lookup, ByOp, ByRepr, Join}
use Rattle.binding.specs.Bound.{Bound, has}
use Rattle.output.specs.Limits.{line_end}
use Rattle.output.specs.PlanText.{text_length}
use Rattle.output.specs.StepFrames.{lookup_bytes, frame_of}
use Rattle.output.specs.Written.{Puts, PutsBytes, PutsFrames, PutsStep}
use Rattle.output.proofs.PutLaws.{bytes_then, line_put}
use Rattle.join_lookups.specs.OperandLookups.{operand_lookups}
use Rattle.joining.specs.Joins.{join_of}

-- ---- by the operator and by the operands that are bound

module _ (h : List ℕ) (n k m op : ℕ) (is : h ≡ 0x40 ∷ n ∷ k ∷ m ∷ 0 ∷ op ∷ 0 ∷ 0 ∷ []) where
  pub op_fits : m ≡ 1 → frame_length h ≤ length h
  unfolding kind_at kinds
  op_fits one = rw (is, one) (omega arith)

  module _ (x y : ℕ) (hx : x ≡ fixed_length (kind_at 0x40)) (hy : y ≡ width (kind_at 0x40).item) where
    eight : x + y ≡ 8
    unfolding kind_at kinds
    eight = rw (hx, hy)

    pub head_fits : x + y ≤ length h
    head_fits = rw (is, eight) (omega arith)

    module _ (o p : List ℕ) (at a : ℕ) (u : PutsBytes o at (take (x + y) h) p a) where
      head_put : PutsBytes o at (0x40 ∷ n ∷ k ∷ m ∷ 0 ∷ op ∷ 0 ∷ 0 ∷ []) p a
      head_put = rw (is, eight) at u

      pub head_near : at < 0x2000_0000 → a < 0x2800_0000
      head_near l = omega (arith, head_put.next)

      pub lookups_near : (c : ℕ) → at < 0x2000_0000 → c ≤ a + 2048 → c < 0x8000_0000
      lookups_near c l near = omega (arith, head_put.next)

      module _ (L : List Lookup) (v q : List ℕ) (c r : ℕ) (near : c ≤ a + 2048) where
        pub keyed_put : (count : ℕ) → m ≡ count + 1 → count ≡ length L → PutsBytes p a (flat_map lookup_bytes L) v c → Puts v c (line_end ∷ []) q r → PutsStep o at (Join n k (ByOp op ∷ L)) q r
        unfolding frame_of flat_map
        keyed_put count hm g w e =
            let s : m ≡ suc (length L) = omega arith in
            let t : PutsBytes o at (0x40 ∷ n ∷ k ∷ suc (length L) ∷ 0 ∷ op ∷ 0 ∷ 0 ∷ []) p a = rw s at head_put in
            record {
              puts = line_put (0x40 ∷ n ∷ k ∷ suc (length L) ∷ 0 ∷ op ∷ 0 ∷ 0 ∷ flat_map lookup_bytes L) (bytes_then (0x40 ∷ n ∷ k ∷ suc (length L) ∷ 0 ∷ op ∷ 0 ∷ 0 ∷ []) (flat_map lookup_bytes L) t w) e;
              near = omega (arith, head_put.next, e.next);
            }

-- ---- by the operator alone

no_lookups : (L : List Lookup) → length L ≡ 0 → L ≡ []
no_lookups [] h = refl
no_lookups (l ∷ L) h = absurd (omega arith)

pub alone_put : (L : List Lookup) (b : List ℕ) (n k op count : ℕ) (o q : List ℕ) (at r : ℕ) → b ≡ 0x40 ∷ n ∷ k ∷ 1 ∷ 0 ∷ op ∷ 0 ∷ 0 ∷ [] → count ≡ length L → count ≡ 0 → PutsFrames o at (frame_at b 0 ∷ []) q r → PutsStep o at (Join n k (ByOp op ∷ L)) q r
unfolding frame_of flat_map text_length kind_at kinds
alone_put L b n k op count o q at r e g z u = record { puts = rw (no_lookups L (sym g ∙ z)) v; near = omega (arith, v.next) }
  where
    v : PutsFrames o at ((0x40 ∷ n ∷ k ∷ 1 ∷ 0 ∷ op ∷ 0 ∷ 0 ∷ []) ∷ []) q r
    v = rw e at u

-- ---- whether the node is bound

pub class_fits : (b : List ℕ) (n k op : ℕ) → b ≡ frame_of (Join n k (ByRepr n ∷ ByOp op ∷ [])) → frame_length b ≤ length b
unfolding frame_of flat_map kind_at kinds
class_fits b n k op e = rw e (omega arith)

module _ (f : List ℕ) (B : Bound) (n : ℕ) (hn : n ≡ get_or f 1 0) (t : Bool) (is : t ≡ has B n) (o q : List ℕ) (at r k : ℕ) where
  held : has B (get_or f 1 0) ≡ t
  held = rw (← hn) (sym is)

  pub join_bound : (b : List ℕ) → t ≡ true → b ≡ frame_of (Join (get_or f 1 0) k (ByRepr (get_or f 1 0) ∷ ByOp (get_or f 2 0) ∷ [])) → PutsFrames o at (frame_at b 0 ∷ []) q r → PutsStep o at (join_of B k f) q r
  unfolding frame_of flat_map text_length kind_at kinds
  join_bound b h e u = record { puts = rw (held ∙ h) v; near = omega (arith, v.next) }
    where
      v : PutsFrames o at (frame_of (Join (get_or f 1 0) k (ByRepr (get_or f 1 0) ∷ ByOp (get_or f 2 0) ∷ [])) ∷ []) q r
      v = rw e at u

  pub join_free : t ≡ false → PutsStep o at (Join (get_or f 1 0) k (ByOp (get_or f 2 0) ∷ operand_lookups B f)) q r → PutsStep o at (join_of B k f) q r
  join_free h u = rw (held ∙ h) u
