-- The search of a slot's entries, one after the other. Assumes nothing.
use Prim.Native.Nat.{ℕ, zero, suc, ◌+◌, ◌*◌, ◌%◌, ◌<◌, ◌≤◌}
use mathlib.Core.Path.{◌≡◌, refl, sym, ◌∙◌, ap}
use mathlib.Core.Bool.{Bool, true, false, not}
use mathlib.Core.List.{List, [], ◌∷◌}
use native.Mathlib.Omega.{arith}
use lib.ListN.{length, get_or, take, drop}
use lib.Dec.{leb, ltb, eqb}
use borrow.Author.Tests.{eq-eqb, ne_eqb, eqb-true, le-leb, not-true, not-false}
use Rattle.frame_keys.specs.Choose.{pick}
use Rattle.frame_keys.specs.Sheet.{frame_at, frames_in}
use Rattle.frame_keys.specs.Frames.{frame_length}
use Rattle.frame_keys.specs.Kinds.{kind_at}
use Rattle.frame_keys.specs.Keys.{begins, find, is_found}
use Rattle.indexing.specs.Index.{slots_for, hash_of, place_of, older_of, searched, found, Falling, given_by, Proper, Indexed}
use Rattle.indexing.proofs.SlotLaws.{take_least, key_hash}
use Rattle.frame_keys.proofs.KeyLaws.{shorter, part_begins, part_not}

module _ (slots : ℕ) where
  -- the entries fall: no more than e of them are looked at from entry e on
  pub enough : (x i k : List ℕ) → Falling slots i → (n m e : ℕ) → e ≤ n → e ≤ m → searched slots x i k n e ≡ searched slots x i k m e
  unfolding searched
  enough x i k w zero zero e p q = refl
  enough x i k w zero (suc m) zero p q = refl
  enough x i k w zero (suc m) (suc e) p q = absurd (omega arith)
  enough x i k w (suc n) zero zero p q = refl
  enough x i k w (suc n) zero (suc e) p q = absurd (omega arith)
  enough x i k w (suc n) (suc m) zero p q = refl
  enough x i k w (suc n) (suc m) (suc e) p q =
      let h = w.falls (suc e) (omega arith) in
      rw (enough x i k w n m (older_of slots i (suc e)) (omega arith) (omega arith))

  -- one entry
  step : (x i k : List ℕ) (e p : ℕ) (b : Bool) → (e ≡ 0 → ⊥) → p ≡ place_of slots i e → b ≡ begins k (frame_at x p) → Falling slots i → searched slots x i k e e ≡ pick b (frame_at x p) (searched slots x i k (older_of slots i e) (older_of slots i e))
  unfolding searched
  step x i k zero p b z u q w = absurd (z refl)
  step x i k (suc e) p b z u q w =
      let h = w.falls (suc e) (omega arith) in
      rw (q, u, ne_eqb (suc e) 0 (λ n. omega arith), enough x i k w e (older_of slots i (suc e)) (older_of slots i (suc e)) (omega arith) (omega arith))

  -- ---- the loop

  -- what is left to search gives what the whole gives
  pub record Searching (x i k : List ℕ) (e : ℕ) : Type 0 where
    pub small : e < 65536
    pub few : slots ≤ 512
    pub falling : Falling slots i
    pub is : found (slots_for (length i)) x i k ≡ searched slots x i k e e

  pub search_starts : (x i k : List ℕ) (h s e : ℕ) → Falling (slots_for (length i)) i → h ≡ hash_of k → slots ≡ slots_for (length i) → slots ≤ 512 → s ≡ h % slots_for (length i) → e ≡ get_or i s 0 → e < 65536 → Searching x i k e
  unfolding found
  search_starts x i k h s e w r n l p q g = record { small = g; few = l; falling = rw n w; is = rw (← n, ← r, n, ← p, ← q) }

  module _ (x i k : List ℕ) (e : ℕ) (s : Searching x i k e) where
    pub search_none : e ≡ 0 → [] ≡ found (slots_for (length i)) x i k
    unfolding searched
    search_none z = sym (s.is ∙ rw z)

    module _ (p o : ℕ) (b : Bool) (z : e ≡ 0 → ⊥) (u : p ≡ get_or i (slots + 2 * e) 0) (g : o ≡ get_or i (slots + 2 * e + 1) 0) (h : o < 65536) (q : b ≡ begins k (drop p x)) where
      next : begins k (frame_at x p) ≡ false → Searching x i k o
      next t = record { small = h; few = s.few; falling = s.falling; is = s.is ∙ step x i k e p false z u (sym t) s.falling ∙ rw g }

      pub search_other : not b ≡ true → Searching x i k o
      search_other t = next (part_not k (drop p x) (frame_length (drop p x)) (sym q ∙ not-true b t))

      module _ (f : List ℕ) (t : not b ≡ false) (v : f ≡ frame_at x p) where
        pub search_hit : length k ≤ length f → f ≡ found (slots_for (length i)) x i k
        search_hit l = v ∙ sym (s.is ∙ step x i k e p true z u (sym (part_begins k (drop p x) (frame_length (drop p x)) (sym q ∙ not-false b t) (rw v at l))) s.falling)

        pub search_short : length f < length k → Searching x i k o
        search_short l = next (shorter k (frame_at x p) (rw v at l))

    pub search_less : (o : ℕ) → (e ≡ 0 → ⊥) → o ≡ get_or i (slots + 2 * e + 1) 0 → o < e
    search_less o z g = rw g (s.falling.falls e (some e z))
      where
        some : (n : ℕ) → (n ≡ 0 → ⊥) → 0 < n
        some zero y = absurd (y refl)
        some (suc n) y = omega arith

-- ---- an empty slot

none_found : (x i k : List ℕ) (h : ℕ) → h ≡ hash_of k → eqb (get_or i (h % slots_for (length i)) 0) 0 ≡ true → [] ≡ found (slots_for (length i)) x i k
unfolding found searched
none_found x i k h e z =
    let n : get_or i (hash_of k % slots_for (length i)) 0 ≡ 0 = eqb-true _ 0 (rw e at z) in
    rw n

-- no frame has a key whose slot has no entry
pub absent_by : (x i k : List ℕ) (b : Bool) → b ≡ eqb (get_or i (hash_of k % slots_for (length i)) 0) 0 → b ≡ true → Indexed x i → Proper k → [] ≡ find k (frames_in x)
absent_by x i k b q t d p = none_found x i k (hash_of k) refl (sym q ∙ t) ∙ d.are.is k p

-- ---- a key that is given twice

found_length : (r : List ℕ) → leb 1 (length r) ≡ is_found r
found_length [] = refl
found_length (a ∷ r) = le-leb 1 (length (a ∷ r)) (omega arith)

module _ (slots : ℕ) (x i f : List ℕ) (b k : ℕ) (p : b ≡ get_or f 0 0) (q : k ≡ (kind_at b).key) where
  pub no_key : k ≡ 0 → false ≡ given_by slots x i f
  no_key z = rw (← p, ← q, eq-eqb _ _ z)

  pub key_is : (w m : ℕ) (r : List ℕ) → (k ≡ 0 → ⊥) → w ≡ k → m ≡ pick (ltb w (length f)) w (length f) → r ≡ found slots x i (take m f) → leb 1 (length r) ≡ given_by slots x i f
  key_is w m r z u v g =
      let e : take m f ≡ take k f = take_least k m f (rw (← u) v) in
      found_length r ∙ ap is_found g ∙ rw (← p, ← q, ne_eqb _ _ z, e)

  -- its slot is empty
  pub key_absent : (s : ℕ) (t : Bool) → slots ≡ slots_for (length i) → (k ≡ 0 → ⊥) → s ≡ hash_of f → t ≡ eqb (get_or i (s % slots_for (length i)) 0) 0 → t ≡ true → false ≡ given_by slots x i f
  key_absent s t n z h e y =
      key_is k (pick (ltb k (length f)) k (length f)) [] z refl refl
      (rw n (none_found x i (take (pick (ltb k (length f)) k (length f)) f) s (key_hash f b k k (pick (ltb k (length f)) k (length f)) s p q z refl refl h) (sym e ∙ y)))
