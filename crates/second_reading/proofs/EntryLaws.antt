-- How many frames can be entered behind so many bytes: a keyed frame has three bytes or more, but for frame 24, of one byte, which is entered once.
-- Assumes nothing.
use Prim.Native.Nat.{ℕ, ◌+◌, ◌*◌, ◌≤◌}
use mathlib.Core.Path.{◌≡◌, refl}
use mathlib.Core.Bool.{Bool, true, false}
use mathlib.Core.List.{List, [], ◌∷◌, ◌++◌}
use native.Mathlib.Omega.{arith}
use lib.ListN.{length, get_or}
use lib.Dec.{eqb}
use borrow.Author.Tests.{eqb-true, eqb-false}
use Rattle.class_sets.specs.Choose.{pick}
use Rattle.indexing.specs.Kinds.{kinds, kind_at}
use Rattle.indexing.specs.Frames.{kind_of, frame_length}
use Rattle.indexing.specs.Keys.{begins, find, is_found, key_given}
use Rattle.indexing.specs.Index.{entries_with}
use Rattle.indexing.proofs.SlotLaws.{keyed_three}
use Rattle.indexing.proofs.NoteLaws.{find_more}

-- the bytes that the frames fs lack of three for each
pub lacking : List (List ℕ) → ℕ
lacking fs = pick (is_found (find (0x24 ∷ []) fs)) 2 0

pub lacking_most : (fs : List (List ℕ)) → lacking fs ≤ 2
unfolding lacking
lacking_most fs = go (is_found (find (0x24 ∷ []) fs))
  where
    go : (b : Bool) → pick b 2 0 ≤ 2
    go true = omega arith
    go false = omega arith

-- with one frame more
lacking_more : (fs : List (List ℕ)) (f : List ℕ) → lacking fs ≤ lacking (fs ++ f ∷ [])
unfolding lacking
lacking_more fs f = rw (find_more 0x24 [] fs f) (go (find (0x24 ∷ []) fs) (pick (begins (0x24 ∷ []) f) f []))
  where
    go : (g h : List ℕ) → pick (is_found g) 2 0 ≤ pick (is_found (pick (is_found g) g h)) 2 0
    go [] h = omega arith
    go (b ∷ g) h = omega arith

-- a new frame 24
lacking_new : (fs : List (List ℕ)) (b : ℕ) (r : List ℕ) → b ≡ 0x24 → key_given fs (b ∷ r) ≡ false → lacking fs + 2 ≤ lacking (fs ++ (b ∷ r) ∷ [])
unfolding lacking key_given begins kind_at kinds
lacking_new fs b r e g =
    let n : is_found (find (0x24 ∷ []) fs) ≡ false = rw e at g in
    rw (e, find_more 0x24 [] fs (0x24 ∷ r), n) (omega arith)

pub entered_still : (fs : List (List ℕ)) (f : List ℕ) (at m : ℕ) → length f ≡ frame_length f → key_given fs f ≡ false → m * 3 ≤ at + lacking fs → entries_with f m * 3 ≤ at + length f + lacking (fs ++ f ∷ [])
entered_still fs f at m l g h = go (eqb (kind_of f).key 0) refl (eqb (get_or f 0 0) 0x24) refl
  where
    one : (f : List ℕ) → 1 ≤ length f → get_or f 0 0 ≡ 0x24 → key_given fs f ≡ false → lacking fs + 2 ≤ lacking (fs ++ f ∷ [])
    one [] o p g = absurd (omega arith)
    one (b ∷ r) o p g = lacking_new fs b r p g

    go : (b : Bool) → eqb (kind_of f).key 0 ≡ b → (c : Bool) → eqb (get_or f 0 0) 0x24 ≡ c → pick b m (m + 1) * 3 ≤ at + length f + lacking (fs ++ f ∷ [])
    go true e c d = omega (arith, h, lacking_more fs f)
    go false e true d = omega (arith, h, l, one f (omega (arith, l)) (eqb-true (get_or f 0 0) 0x24 d) g)
    go false e false d = omega (arith, h, lacking_more fs f, keyed_three f l (eqb-false (kind_of f).key 0 e) d)
