-- Keys compared. Assumes nothing.
use Prim.Native.Nat.{ℕ, zero, suc, ◌-◌, ◌<◌, ◌≤◌}
use mathlib.Core.Path.{◌≡◌, refl, sym, ◌∙◌, ap}
use mathlib.Core.Bool.{Bool, true, false, true≢false, ◌&&◌}
use mathlib.Core.List.{List, [], ◌∷◌}
use native.Mathlib.Omega.{arith}
use lib.ListN.{length, take, drop, length-drop, drop_of_length-le}
use lib.Seq.{take_all, length-take-le}
use lib.Dec.{eqb}
use borrow.Author.Tests.{ne_eqb}
use Rattle.std.specs.Cmp.Lexicographic.{pointwise}
use Rattle.frames.specs.Choose.{pick}
use Rattle.frame_keys.specs.Keys.{begins}

pick_false : (t : Bool) → pick t false false ≡ false
pick_false true = refl
pick_false false = refl

pub shorter : (key f : List ℕ) → length f < length key → begins key f ≡ false
unfolding begins
shorter [] f h = absurd (omega arith)
shorter (k ∷ key) [] h = refl
shorter (k ∷ key) (b ∷ f) h = rw (shorter key f (omega arith)) (pick_false (eqb k b))

-- a key's bytes are those of a frame that begins with it
pub begins_pointwise : (key f : List ℕ) → pointwise eqb key (take (length key) f) ≡ begins key f
unfolding begins
begins_pointwise [] f = refl
begins_pointwise (k ∷ key) [] = refl
begins_pointwise (k ∷ key) (b ∷ f) = rw (begins_pointwise key f) (by_first (eqb k b) (begins key f))
  where
    by_first : (a b : Bool) → (a && b) ≡ pick a b false
    by_first true b = refl
    by_first false b = refl

-- bytes agree where those before n do, and those from there on
pub pointwise_parts : (n : ℕ) (a b : List ℕ) → n ≤ length a → n ≤ length b
    → (pointwise eqb (take n a) (take n b) && pointwise eqb (drop n a) (drop n b)) ≡ pointwise eqb a b
pointwise_parts zero a b h g = refl
pointwise_parts (suc n) [] b h g = absurd (omega (arith, h))
pointwise_parts (suc n) (x ∷ a) [] h g = absurd (omega (arith, g))
pointwise_parts (suc n) (x ∷ a) (y ∷ b) h g =
    rw (sym (pointwise_parts n a b (omega (arith, h)) (omega (arith, g))))
    (by_three (eqb x y) (pointwise eqb (take n a) (take n b)) (pointwise eqb (drop n a) (drop n b)))
  where
    by_three : (p q r : Bool) → ((p && q) && r) ≡ (p && (q && r))
    by_three true q r = refl
    by_three false q r = refl

-- a frame begins with a key only where the key's last n bytes stand at their place
pub last_differ : (n : ℕ) (key f last : List ℕ) → length key ≤ length f → n ≤ length key → last ≡ drop (length key - n) key
    → false ≡ pointwise eqb last (drop (length (take (length key) f) - length last) (take (length key) f)) → false ≡ begins key f
last_differ n key f last h m i e =
    sym (sym (begins_pointwise key f)
    ∙ sym (pointwise_parts (length key - n) key (take (length key) f) (omega arith) (omega (arith, length-take-le _ _ h)))
    ∙ by_last (pointwise eqb (take (length key - n) key) (take (length key - n) (take (length key) f))) (in_place (length key - n) key) at_last)
  where
    in_place : ℕ → List ℕ → Bool
    in_place at whole = pointwise eqb (drop at whole) (drop at (take (length key) f))

    at_last : false ≡ in_place (length key - n) key
    at_last = e ∙ ap (λ x. pointwise eqb x (drop (length (take (length key) f) - length x) (take (length key) f))) i
        ∙ ap (λ at. pointwise eqb (drop (length key - n) key) (drop at (take (length key) f)))
        (omega (arith, length-drop (length key - n) key, length-take-le _ _ h))

    by_last : (p r : Bool) → false ≡ r → (p && r) ≡ false
    by_last true r q = sym q
    by_last false r q = refl

-- ---- from a place of a sheet on

pub begins_past : (k s : List ℕ) (at : ℕ) → length s < at → eqb (length k) 0 ≡ begins k (drop at s)
unfolding begins
begins_past k s at h = rw (drop_of_length-le s (le h)) (go k)
  where
    le : length s < at → length s ≤ at
    le h = omega arith

    go : (k : List ℕ) → eqb (length k) 0 ≡ begins k []
    go [] = refl
    go (b ∷ k) = ne_eqb (length (b ∷ k)) 0 (λ e. omega arith)

pub begins_from : (k s : List ℕ) (at : ℕ) (b : Bool) → b ≡ begins k (take (length s - at) (drop at s)) → b ≡ begins k (drop at s)
begins_from k s at b p = p ∙ ap (begins k) (take_all (length s - at) (drop at s) (omega (arith, length-drop at s)))

-- ---- a part of what begins with a key, or not

pub part_begins : (k f : List ℕ) (n : ℕ) → begins k f ≡ true → length k ≤ length (take n f) → begins k (take n f) ≡ true
unfolding begins
part_begins [] f n p h = refl
part_begins (b ∷ k) [] n p h = absurd (true≢false (sym p))
part_begins (b ∷ k) (d ∷ f) zero p h = absurd (omega arith)
part_begins (b ∷ k) (d ∷ f) (suc n) p h = go (eqb b d) (λ q. part_begins k f n q (omega arith)) p
  where
    go : (t : Bool) → (begins k f ≡ true → begins k (take n f) ≡ true) → pick t (begins k f) false ≡ true → pick t (begins k (take n f)) false ≡ true
    go true g q = g q
    go false g q = q

pub part_not : (k f : List ℕ) (n : ℕ) → begins k f ≡ false → begins k (take n f) ≡ false
unfolding begins
part_not [] f n p = absurd (true≢false p)
part_not (b ∷ k) [] zero p = refl
part_not (b ∷ k) [] (suc n) p = refl
part_not (b ∷ k) (d ∷ f) zero p = refl
part_not (b ∷ k) (d ∷ f) (suc n) p = go (eqb b d) (part_not k f n) p
  where
    go : (t : Bool) → (begins k f ≡ false → begins k (take n f) ≡ false) → pick t (begins k f) false ≡ false → pick t (begins k (take n f)) false ≡ false
    go true g q = g q
    go false g q = q
