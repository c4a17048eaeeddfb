-- How many items are read, those behind the first, and items as they were laid. Proved by induction over their number.
use Prim.Native.Nat.{ℕ, zero, suc, ◌+◌, ◌-◌, ◌*◌, ◌<◌, ◌≤◌, min}
use mathlib.Core.Path.{◌≡◌, refl, sym, ◌∙◌, ap, subst}
use mathlib.Core.List.{List, [], ◌∷◌, ◌++◌, flat_map, append_assoc, Memᴰ}
use native.Mathlib.Nat.{add-zero, mul-suc}
use native.Mathlib.Omega.{arith}
use lib.ListN.{length, get_or, take, length-append}
use lib.Seq.{get_or-append-add}
use Rattle.records.specs.Items.{Each, items_at}

-- as many as are read
pub items_count : {X : Type 0} (read : List ℕ → ℕ → X) (w : ℕ) (f : List ℕ) (i n : ℕ) → length (items_at read w f i n) ≡ n
unfolding items_at
items_count read w f i zero = refl
items_count read w f i (suc n) = ap suc (items_count read w f (i + w) n)

-- those left behind k of n: one and the rest, or none
module _ {X : Type 0} (read : List ℕ → ℕ → X) (w : ℕ) (f : List ℕ) (i k n : ℕ) where
  pub items_more : k < n → items_at read w f i (n - k) ≡ read f i ∷ items_at read w f (i + w) (n - (k + 1))
  unfolding items_at
  items_more h = let e : n - k ≡ suc (n - (k + 1)) = omega arith in rw e

  pub items_none : n ≤ k → items_at read w f i (n - k) ≡ []
  unfolding items_at
  items_none h = let e : n - k ≡ 0 = omega arith in rw e

-- the first k of n
pub items_take : {X : Type 0} (read : List ℕ → ℕ → X) (w : ℕ) (f : List ℕ) (i k n : ℕ) → take k (items_at read w f i n) ≡ items_at read w f i (min k n)
unfolding items_at
items_take read w f i zero n = let e : min 0 n ≡ 0 = omega arith in rw e
items_take read w f i (suc k) zero = let e : min (suc k) 0 ≡ 0 = omega arith in rw e
items_take read w f i (suc k) (suc n) = let e : min (suc k) (suc n) ≡ suc (min k n) = omega arith in rw (e, items_take read w f (i + w) k n)

-- one more
pub items_last : {X : Type 0} (read : List ℕ → ℕ → X) (w : ℕ) (f : List ℕ) (i n : ℕ) → items_at read w f i (suc n) ≡ items_at read w f i n ++ read f (i + w * n) ∷ []
unfolding items_at
items_last read w f i zero = let e : i + w * 0 ≡ i = omega arith in rw e
items_last read w f i (suc n) = let e : i + w * suc n ≡ i + w + w * n = rw (mul-suc w n) (omega arith) in rw e (ap {B = List _} (λ l. read f i ∷ l) (items_last read w f (i + w) n))

module _ {X : Type 0} (g : X → List ℕ) (w : ℕ) (wide : (x : X) → length (g x) ≡ w) where
  -- what an item's place reads gives the item, whatever stands around it
  pub items_read : (read : List ℕ → ℕ → X) (Q : X → Type 0) → ((x : X) → Q x → (p q : List ℕ) → read (p ++ (g x ++ q)) (length p) ≡ x) → (xs : List X) → Each Q xs → (p : List ℕ) → items_at read w (p ++ flat_map g xs) (length p) (length xs) ≡ xs
  unfolding flat_map items_at
  items_read read Q r [] h p = refl
  items_read read Q r (x ∷ xs) h p =
      let e : p ++ (g x ++ flat_map g xs) ≡ (p ++ g x) ++ flat_map g xs = sym (append_assoc p (g x) (flat_map g xs)) in
      let l : length p + w ≡ length (p ++ g x) = sym (length-append p (g x) ∙ ap (λ (m : ℕ). length p + m) (wide x)) in
      let rest : items_at read w (p ++ (g x ++ flat_map g xs)) (length (p ++ g x)) (length xs) ≡ xs = subst (λ (f : List ℕ). items_at read w f (length (p ++ g x)) (length xs) ≡ xs) (sym e) (items_read read Q r xs h.1 (p ++ g x)) in
      rw (r x h.0 p (flat_map g xs), l, rest)

-- the byte at p's end is the first of what follows p
pub behind : (p r : List ℕ) → get_or (p ++ r) (length p) 0 ≡ get_or r 0 0
behind p r = ap (λ (m : ℕ). get_or (p ++ r) m 0) (sym (add-zero (length p))) ∙ get_or-append-add p r 0 0

-- what holds at every place, and of every element, holds of each
pub each_by : {X : Type 0} (P : X → Type 0) (d : X) (l : List X) → ((i : ℕ) → i < length l → P (get_or l i d)) → Each P l
each_by P d [] h = tt
each_by P d (x ∷ l) h = (h 0 (omega arith), each_by P d l (λ i k. h (suc i) (omega arith)))

pub each_all : {X : Type 0} (P : X → Type 0) (l : List X) → ((x : X) → Memᴰ x l → P x) → Each P l
each_all P [] h = tt
each_all P (x ∷ l) h = (h x (Memᴰ.head refl), each_all P l (λ y m. h y (Memᴰ.tail m)))
