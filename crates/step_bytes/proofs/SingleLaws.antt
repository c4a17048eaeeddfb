-- The one step of an atom, or the one behind its Join. Proved from what its lowering is, kind by kind.
use Prim.Native.Nat.{ℕ, ◌+◌, ◌*◌, ◌/◌, ◌%◌, ◌<◌}
use mathlib.Core.Path.{◌≡◌, refl}
use mathlib.Core.Bool.{Bool, true, false}
use mathlib.Core.List.{List, [], ◌∷◌, map}
use native.Mathlib.Omega.{arith}
use lib.ListN.{get_or}
use Rattle.std.specs.Prelude.{Some, None, Option as Maybe}
use Rattle.binding.specs.Kinds.{kinds, kind_at}
use Rattle.output.specs.Atoms.{Eq, EqGlobal}
use Rattle.binding.specs.Bound.{Bound, has}
use Rattle.binding.specs.Lowering.{lower}
use Rattle.binding.specs.QueryAtoms.{atom_of_frame}
use Rattle.output.specs.StepFrames.{word_bytes, frame_of}
use Rattle.step_bytes.specs.Begun.{Begins, MayBecome, steps_of, behind_of}

-- the four bytes of a number that was read off them
word_is : (v x y z w : ℕ) → v ≡ (x * 0x100 + y) * 0x1_0000 + (z * 0x100 + w) → x < 256 → y < 256 → z < 256 → w < 256 → word_bytes v ≡ x ∷ y ∷ z ∷ w ∷ []
word_is v x y z w e lx ly lz lw =
    let a : v / 0x100_0000 ≡ x = omega arith in
    let b : v / 0x1_0000 % 0x100 ≡ y = omega arith in
    let c : v / 0x100 % 0x100 ≡ z = omega arith in
    let d : v % 0x100 ≡ w = omega arith in
    rw (a, b, c, d)

-- ---- an Eq

module _ (B : Bound) (a b : ℕ) where
  pub eq_both : true ≡ has B a → true ≡ has B b → MayBecome (Some (0x43 ∷ a ∷ b ∷ [])) (steps_of (lower B 0 (Eq a b)))
  unfolding lower frame_of kind_at kinds
  eq_both h k = rw (← h, ← k) (record { fits = omega arith; few = omega arith; is = refl })

  pub eq_left : true ≡ has B a → false ≡ has B b → MayBecome (Some (0x46 ∷ b ∷ a ∷ [])) (steps_of (lower B 0 (Eq a b)))
  unfolding lower frame_of kind_at kinds
  eq_left h k = rw (← h, ← k) (record { fits = omega arith; few = omega arith; is = refl })

  pub eq_right : false ≡ has B a → true ≡ has B b → MayBecome (Some (0x46 ∷ a ∷ b ∷ [])) (steps_of (lower B 0 (Eq a b)))
  unfolding lower frame_of kind_at kinds
  eq_right h k = rw (← h, ← k) (record { fits = omega arith; few = omega arith; is = refl })

  pub eq_waits : false ≡ has B a → false ≡ has B b → MayBecome None (steps_of (lower B 0 (Eq a b)))
  unfolding lower kind_at kinds
  eq_waits h k = rw (← h, ← k) refl

-- ---- an EqGlobal

module _ (B : Bound) (a g : ℕ) (t : Bool) (is : t ≡ has B a) where
  pub global_checked : t ≡ true → Begins (0x44 ∷ a ∷ g ∷ []) (map frame_of (steps_of (lower B 0 (EqGlobal a g))))
  unfolding lower frame_of kind_at kinds
  global_checked h = rw (← is, h) (record { fits = omega arith; few = omega arith; is = refl })

  pub global_bound : t ≡ false → Begins (0x45 ∷ a ∷ g ∷ []) (map frame_of (steps_of (lower B 0 (EqGlobal a g))))
  unfolding lower frame_of kind_at kinds
  global_bound h = rw (← is, h) (record { fits = omega arith; few = omega arith; is = refl })

-- ---- by the kind

module _ (f : List ℕ) (k : ℕ) (is : k ≡ get_or f 0 0) (a : ℕ) (ha : a ≡ get_or f 1 0) where
  module _ (B : Bound) where
    module _ (b : ℕ) (hb : b ≡ get_or f 2 0) where
      pub is_eq : (r : Maybe (List ℕ)) → k ≡ 4 → MayBecome r (steps_of (lower B 0 (Eq a b))) → MayBecome r (steps_of (lower B 0 (atom_of_frame f)))
      unfolding atom_of_frame
      is_eq r h u = rw (← is, h, ← ha, ← hb) u

      pub is_eq_global : (r : List ℕ) → k ≡ 5 → Begins r (map frame_of (steps_of (lower B 0 (EqGlobal a b)))) → MayBecome (Some r) (steps_of (lower B 0 (atom_of_frame f)))
      unfolding atom_of_frame
      is_eq_global r h u = rw (← is, h, ← ha, ← hb) u

    pub is_pred : 3 < get_or f 0 0 → get_or f 0 0 < 7 → (k ≡ 4 → ⊥) → (k ≡ 5 → ⊥) → MayBecome (Some (0x4c ∷ a ∷ 0 ∷ [])) (steps_of (lower B 0 (atom_of_frame f)))
    unfolding atom_of_frame lower frame_of kind_at kinds
    is_pred l m p q = let six : k ≡ 6 = omega arith in rw (← is, six, ← ha) (record { fits = omega arith; few = omega arith; is = refl })

  pub is_lit : (x y z w : ℕ) → x ≡ get_or f 4 0 → y ≡ get_or f 5 0 → z ≡ get_or f 6 0 → w ≡ get_or f 7 0 → x < 256 → y < 256 → z < 256 → w < 256 → k ≡ 2 → Begins (0x4b ∷ a ∷ x ∷ y ∷ z ∷ w ∷ []) (map frame_of (behind_of (atom_of_frame f)))
  unfolding atom_of_frame frame_of kind_at kinds
  is_lit x y z w hx hy hz hw lx ly lz lw h = rw (← is, h, ← ha, ← hx, ← hy, ← hz, ← hw) (record { fits = omega arith; few = omega arith; is = rw (word_is ((x * 0x100 + y) * 0x1_0000 + (z * 0x100 + w)) x y z w refl lx ly lz lw) })

  pub is_lit_bind : (l : ℕ) → l ≡ get_or f 3 0 → 1 < get_or f 0 0 → get_or f 0 0 < 4 → (k ≡ 2 → ⊥) → Begins (0x4a ∷ a ∷ l ∷ 0 ∷ 0 ∷ 0 ∷ []) (map frame_of (behind_of (atom_of_frame f)))
  unfolding atom_of_frame frame_of kind_at kinds
  is_lit_bind l hl p q n = let three : k ≡ 3 = omega arith in rw (← is, three, ← ha, ← hl) (record { fits = omega arith; few = omega arith; is = refl })
