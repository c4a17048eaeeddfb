-- The tests of one frame, each way through. Proved from the tests before it.
use Prim.Native.Nat.{ℕ}
use mathlib.Core.Path.{◌≡◌, refl}
use mathlib.Core.Bool.{Bool, true, false, not}
use mathlib.Core.List.{List}
use native.Mathlib.Omega.{arith}
use lib.ListN.{length, get_or}
use lib.Dec.{eqb}
use borrow.Author.Tests.{eq-eqb, ne_eqb, eqb-true, not-true, not-false}
use Rattle.frames.specs.Choose.{pick}
use Rattle.frames.specs.Test.TheVariants.{Limits}
use Rattle.frames.specs.Fields.{field_passes, no_counts}
use Rattle.frames.specs.Frames.{frame_length, frame_passes}
use Rattle.frame_tests.specs.declared.tests.Text.{Text}
use Rattle.frame_tests.specs.Faults.{belongs, has_room, frame_fault}

module _ (t : Text) (first : Bool) (c : ℕ) (f : List ℕ) (k : ℕ) (p : k ≡ get_or f 0 0) (b : Bool) (q : b ≡ belongs t first k) where
  pub fault_2 : not b ≡ true → 2 ≡ frame_fault t first c f
  unfolding frame_fault
  fault_2 h = rw (← p, ← q, not-true b h)

  module _ (v : ℕ) (g : v ≡ frame_length f) (h : not b ≡ false) where
    pub fault_3 : (length f ≡ v → ⊥) → 3 ≡ frame_fault t first c f
    unfolding frame_fault
    fault_3 e = rw (← g, ← p, ← q, not-false b h, ne_eqb _ _ e)

    module _ (e : length f ≡ v) (m : Bool) (r : m ≡ frame_passes (field_passes Limits no_counts) f) where
      pub fault_4 : not m ≡ true → 4 ≡ frame_fault t first c f
      unfolding frame_fault
      fault_4 o = rw (← g, ← r, ← p, ← q, not-false b h, eq-eqb _ _ e, not-true m o)

      module _ (o : not m ≡ false) (s : Bool) (u : s ≡ has_room t c k) where
        pub fault_none : s ≡ true → 0 ≡ frame_fault t first c f
        unfolding frame_fault
        fault_none w = rw (← g, ← r, ← p, ← q, not-false b h, eq-eqb _ _ e, not-false m o, ← u, w)

        pub fault_full : s ≡ false → 4 ≡ frame_fault t first c f
        unfolding frame_fault
        fault_full w = rw (← g, ← r, ← p, ← q, not-false b h, eq-eqb _ _ e, not-false m o, ← u, w)

-- a frame without a fault has the length that it says
pub fault_long : (t : Text) (first : Bool) (c : ℕ) (f : List ℕ) → frame_fault t first c f ≡ 0 → length f ≡ frame_length f
unfolding frame_fault
fault_long t first c f = go (belongs t first (get_or f 0 0)) (eqb (length f) (frame_length f)) (pick (frame_passes (field_passes Limits no_counts) f) (pick (has_room t c (get_or f 0 0)) 0 4) 4) refl
  where
    go : (a b : Bool) (n : ℕ) → eqb (length f) (frame_length f) ≡ b → pick a (pick b n 3) 2 ≡ 0 → length f ≡ frame_length f
    go true true n e p = eqb-true _ _ e
    go true false n e p = absurd (omega arith)
    go false b n e p = absurd (omega arith)
