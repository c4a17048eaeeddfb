-- One more line in an index. Assumes nothing.
use Prim.Native.Nat.{ℕ, zero, suc, ◌+◌, ◌*◌, ◌%◌, ◌<◌, ◌≤◌}
use mathlib.Core.Path.{◌≡◌, refl, ◌∙◌, ap}
use mathlib.Core.Bool.{Bool, true, false}
use mathlib.Core.List.{List, [], ◌∷◌, ◌++◌}
use native.Mathlib.Numerals.{add-one}
use native.Mathlib.Omega.{arith}
use lib.ListN.{length, get_or, take, drop, set, length-set}
use lib.Seq.{get_or-set_same, get_or-set_other}
use lib.Dec.{leb, eqb}
use borrow.Author.Tests.{eq-eqb, ne_eqb, eqb-true, eqb-false, leb-true, leb-false}
use Rattle.frame_keys.specs.Choose.{pick}
use Rattle.frame_keys.specs.Sheet.{frame_at}
use Rattle.frame_keys.specs.Kinds.{kind_at}
use Rattle.frame_keys.specs.Frames.{kind_of, frame_length}
use Rattle.frame_keys.specs.Keys.{begins, find, is_found, key_of, key_given}
use Rattle.indexing.specs.Index.{slots_for, hashed, hash_of, slot_of, Slotted, Proper, place_of, older_of, latest, searched, found, Falling, given_by, entered, noted, entries_with, Indexes}
use Rattle.indexing.proofs.SlotLaws.{slot_below, slotted_some, proper_slotted, begins_first, begins_hash, begins_part, key_slotted}
use Rattle.indexing.proofs.SearchLaws.{enough}

-- ---- the numbers of a new entry

module _ (slots : ℕ) where
  -- j is i with the entry behind m others, of the slot s and the place `at`
  record Entry (i j : List ℕ) (s at m : ℕ) : Type 0 where
    pub here : latest j s ≡ suc m
    pub elsewhere : (t : ℕ) → t < slots → (t ≡ s → ⊥) → latest j t ≡ latest i t
    pub place : place_of slots j (suc m) ≡ at
    pub older : older_of slots j (suc m) ≡ latest i s
    pub places : (d : ℕ) → d ≤ m → place_of slots j d ≡ place_of slots i d
    pub olders : (d : ℕ) → (d ≡ suc m → ⊥) → older_of slots j d ≡ older_of slots i d

  entry_made : (i : List ℕ) (s at m : ℕ) → s < slots → slots + 2 * (m + 1) + 2 ≤ length i → Entry i (entered slots i s at (suc m)) s at m
  entry_made i s at m below room = record {
    here = get_or-set_same b s (suc m) 0 (simp length-set (omega arith));
    elsewhere = λ t h n. kept t n (λ e. omega arith) (λ e. omega arith);
    place = get_or-set_other b s p (suc m) 0 (λ e. omega arith) ∙ get_or-set_other a (p + 1) p o 0 (λ e. omega arith) ∙ get_or-set_same i p at 0 (omega arith);
    older = get_or-set_other b s (p + 1) (suc m) 0 (λ e. omega arith) ∙ get_or-set_same a (p + 1) o 0 (simp length-set (omega arith));
    places = λ d h. kept (slots + 2 * d) (λ e. omega arith) (λ e. omega arith) (λ e. omega arith);
    olders = λ d n. kept (slots + 2 * d + 1) (λ e. omega arith) (λ e. omega arith) (λ e. n (omega arith));
  }
    where
      p : ℕ
      p = slots + 2 * suc m

      o : ℕ
      o = latest i s

      a : List ℕ
      a = set i p at

      b : List ℕ
      b = set a (p + 1) o

      kept : (q : ℕ) → (q ≡ s → ⊥) → (q ≡ p → ⊥) → (q ≡ p + 1 → ⊥) → get_or (set b s (suc m)) q 0 ≡ get_or i q 0
      kept q u v w = get_or-set_other b s q (suc m) 0 u ∙ get_or-set_other a (p + 1) q o 0 w ∙ get_or-set_other i p q at 0 v

  -- entries up to m are those of i
  unchanged : (x i j k : List ℕ) (s at m : ℕ) → Entry i j s at m → Falling slots i → (n e : ℕ) → e ≤ m → searched slots x j k n e ≡ searched slots x i k n e
  unfolding searched
  unchanged x i j k s at m t w zero e h = refl
  unchanged x i j k s at m t w (suc n) zero h = refl
  unchanged x i j k s at m t w (suc n) (suc e) h =
      let f = w.falls (suc e) (omega arith) in
      rw (t.places (suc e) h, t.olders (suc e) (λ q. omega arith), unchanged x i j k s at m t w n (older_of slots i (suc e)) (omega arith))

-- ---- what is found with one more entry

not_begun : (k f : List ℕ) → (begins k f ≡ true → ⊥) → begins k f ≡ false
not_begun k f n = go (begins k f) refl
  where
    go : (t : Bool) → begins k f ≡ t → t ≡ false
    go true q = absurd (n q)
    go false q = refl

module _ (slots : ℕ) (some : 0 < slots) (x i j f : List ℕ) (fs : List (List ℕ)) (at m : ℕ) (t : Entry slots i j (slot_of slots f) at m) (q : Indexes slots x i fs m) (line : frame_at x at ≡ f) where
  falls_still : Falling slots j
  falls_still = record { falls = λ e h. go e h (eqb e (suc m)) refl }
    where
      go : (e : ℕ) → 0 < e → (b : Bool) → eqb e (suc m) ≡ b → older_of slots j e < e
      go e h true p = let z = eqb-true e (suc m) p in let l = q.few (slot_of slots f) (slot_below slots some f) in rw (z, t.older) (omega arith)
      go e h false p = rw (t.olders e (eqb-false e (suc m) p)) (q.falling.falls e h)

  few_still : (s : ℕ) → s < slots → latest j s ≤ suc m
  few_still s h = go (eqb s (slot_of slots f)) refl
    where
      go : (b : Bool) → eqb s (slot_of slots f) ≡ b → latest j s ≤ suc m
      go true p = rw (eqb-true s (slot_of slots f) p, t.here) (omega arith)
      go false p = let l = q.few s h in rw (t.elsewhere s h (eqb-false s (slot_of slots f) p)) (omega arith)

  inside_still : at + frame_length (drop at x) ≤ length x → (e : ℕ) → 0 < e → e ≤ suc m → place_of slots j e + frame_length (drop (place_of slots j e) x) ≤ length x
  inside_still w e h l = go (leb e m) refl
    where
      go : (b : Bool) → leb e m ≡ b → place_of slots j e + frame_length (drop (place_of slots j e) x) ≤ length x
      go true p = let o = leb-true e m p in rw (t.places e o) (q.inside e h o)
      go false p = let z : e ≡ suc m = omega (arith, leb-false e m p) in rw (z, t.place) w

  same_slot : (k : List ℕ) → slot_of slots k ≡ slot_of slots f → found slots x j k ≡ pick (begins k f) f (found slots x i k)
  unfolding searched found
  same_slot k e =
      let l = q.few (slot_of slots f) (slot_below slots some f) in
      rw (e, t.here, ne_eqb (suc m) 0 (λ n. omega arith), t.place, t.older, line, unchanged slots x i j k (slot_of slots f) at m t q.falling m (latest i (slot_of slots f)) l, enough slots x i k q.falling m (latest i (slot_of slots f)) (latest i (slot_of slots f)) l (omega arith))

  other_slot : (k : List ℕ) → (slot_of slots k ≡ slot_of slots f → ⊥) → found slots x j k ≡ found slots x i k
  unfolding found
  other_slot k n =
      rw (t.elsewhere (slot_of slots k) (slot_below slots some k) n)
      (unchanged slots x i j k (slot_of slots f) at m t q.falling (latest i (slot_of slots k)) (latest i (slot_of slots k)) (q.few (slot_of slots k) (slot_below slots some k)))

  found_with : (k : List ℕ) → Slotted k → found slots x j k ≡ pick (begins k f) f (found slots x i k)
  found_with k s = go (eqb (slot_of slots k) (slot_of slots f)) refl
    where
      go : (b : Bool) → eqb (slot_of slots k) (slot_of slots f) ≡ b → found slots x j k ≡ pick (begins k f) f (found slots x i k)
      go true p = same_slot k (eqb-true _ _ p)
      go false p =
          let n = eqb-false (slot_of slots k) (slot_of slots f) p in
          rw (not_begun k f (λ e. n (ap (λ (h : ℕ). h % slots) (begins_hash k f s e)))) (other_slot k n)

-- ---- what is to be found with one more frame

pub find_more : (b : ℕ) (k : List ℕ) (fs : List (List ℕ)) (f : List ℕ) → find (b ∷ k) (fs ++ f ∷ []) ≡ pick (is_found (find (b ∷ k) fs)) (find (b ∷ k) fs) (pick (begins (b ∷ k) f) f [])
unfolding find begins
find_more b k [] f = refl
find_more b k ([] ∷ fs) f = find_more b k fs f
find_more b k ((c ∷ g) ∷ fs) f = go (begins (b ∷ k) (c ∷ g)) (find_more b k fs f)
  where
    go : (t : Bool) → find (b ∷ k) (fs ++ f ∷ []) ≡ pick (is_found (find (b ∷ k) fs)) (find (b ∷ k) fs) (pick (begins (b ∷ k) f) f []) → pick t (c ∷ g) (find (b ∷ k) (fs ++ f ∷ [])) ≡ pick (is_found (pick t (c ∷ g) (find (b ∷ k) fs))) (pick t (c ∷ g) (find (b ∷ k) fs)) (pick (begins (b ∷ k) f) f [])
    go true q = refl
    go false q = q

find_with : (k : List ℕ) → Slotted k → (fs : List (List ℕ)) (f : List ℕ) → find k (fs ++ f ∷ []) ≡ pick (is_found (find k fs)) (find k fs) (pick (begins k f) f [])
find_with k s fs f = slotted_some (λ (k : List ℕ). find k (fs ++ f ∷ []) ≡ pick (is_found (find k fs)) (find k fs) (pick (begins k f) f [])) k s (λ b k. find_more b k fs f)

-- a frame that begins with a key of some bytes has some
pub begun_some : (b : ℕ) (k f : List ℕ) → begins (b ∷ k) f ≡ true → is_found f ≡ true
unfolding begins
begun_some b k [] p = p
begun_some b k (c ∷ f) p = refl

found_some : (k f : List ℕ) → Slotted k → begins k f ≡ true → is_found f ≡ true
found_some k f s = slotted_some (λ (k : List ℕ). begins k f ≡ true → is_found f ≡ true) k s (λ b k. begun_some b k f)

-- whether there is one
given_with : (r g f : List ℕ) (b : Bool) → is_found r ≡ is_found g → (b ≡ true → is_found f ≡ true) → is_found (pick b f r) ≡ is_found (pick (is_found g) g (pick b f []))
given_with r [] f true p h = refl
given_with r [] f false p h = p
given_with r (c ∷ g) f true p h = h refl
given_with r (c ∷ g) f false p h = p

-- which it is: the new one only where there was none
found_first : (g f : List ℕ) (b : Bool) → (b ≡ true → is_found g ≡ false) → pick b f g ≡ pick (is_found g) g (pick b f [])
found_first [] f b h = refl
found_first (c ∷ g) f true h = let z : ◌≡◌ {A = ℕ} 0 1 = cc (h refl) in absurd (omega arith)
found_first (c ∷ g) f false h = refl

-- where nothing is found by a part of a key, nothing is by the key
none_by : (k : List ℕ) (b : ℕ) (p : List ℕ) (fs : List (List ℕ)) → ((g : List ℕ) → begins k g ≡ true → begins (b ∷ p) g ≡ true) → is_found (find (b ∷ p) fs) ≡ false → is_found (find k fs) ≡ false
unfolding find
none_by k b p [] h q = refl
none_by k b p (g ∷ fs) h q = go (begins k g) (begins (b ∷ p) g) refl refl (none_by k b p fs h) q
  where
    go : (t u : Bool) → begins k g ≡ t → begins (b ∷ p) g ≡ u → (is_found (find (b ∷ p) fs) ≡ false → is_found (find k fs) ≡ false) → is_found (pick u g (find (b ∷ p) fs)) ≡ false → is_found (pick t g (find k fs)) ≡ false
    go true true e d m q = q
    go true false e d m q = let z : ◌≡◌ {A = ℕ} 0 1 = cc (h g e) in absurd (omega arith)
    go false true e d m q = let z : ◌≡◌ {A = ℕ} 0 1 = cc (begun_some b p g d) in absurd (omega arith)
    go false false e d m q = m q

none_by_part : (n : ℕ) (k f : List ℕ) (fs : List (List ℕ)) → 0 < n → n ≤ length k → begins k f ≡ true → is_found (find (take n f) fs) ≡ false → is_found (find k fs) ≡ false
unfolding begins
none_by_part zero k f fs z h p q = absurd (omega arith)
none_by_part (suc n) [] f fs z h p q = absurd (omega arith)
none_by_part (suc n) (b ∷ k) [] fs z h p q = let y : ◌≡◌ {A = ℕ} 0 1 = cc in absurd (omega arith)
none_by_part (suc n) (b ∷ k) (c ∷ f) fs z h p q = none_by (b ∷ k) c (take n f) fs (λ g e. begins_part (suc n) (b ∷ k) (c ∷ f) g h p e) q

-- a whole key of a frame whose key was not given was not given
none_given : (k f : List ℕ) (fs : List (List ℕ)) → Proper k → key_given fs f ≡ false → begins k f ≡ true → is_found (find k fs) ≡ false
unfolding key_given
none_given k f fs w g p =
    let e : get_or k 0 0 ≡ get_or f 0 0 = begins_first k f (proper_slotted k w) p in
    let a : 0 < (kind_of f).key = rw e at w.keyed in
    let b : (kind_of f).key ≤ length k = rw e at w.whole in
    none_by_part (kind_of f).key k f fs a b p (rw (ne_eqb (kind_of f).key 0 (λ z. omega arith)) at g)

-- ---- an index with one more line

keyed_line : (slots : ℕ) → 0 < slots → (x i j f : List ℕ) (fs : List (List ℕ)) (at m : ℕ) → Entry slots i j (slot_of slots f) at m → Indexes slots x i fs m → frame_at x at ≡ f → at + frame_length (drop at x) ≤ length x → key_given fs f ≡ false → Indexes slots x j (fs ++ f ∷ []) (suc m)
keyed_line slots some x i j f fs at m t q l w g = record {
  falling = falls_still slots some x i j f fs at m t q l;
  few = few_still slots some x i j f fs at m t q l;
  inside = inside_still slots some x i j f fs at m t q l w;
  given = λ k s. rw (found_with slots some x i j f fs at m t q l k s, find_with k s fs f) (given_with (found slots x i k) (find k fs) f (begins k f) (q.given k s) (found_some k f s));
  is = λ k p. rw (found_with slots some x i j f fs at m t q l k (proper_slotted k p), find_with k (proper_slotted k p) fs f, q.is k p) (found_first (find k fs) f (begins k f) (none_given k f fs p g));
}

-- a line without a key changes nothing
unkeyed_line : (slots : ℕ) (x i f : List ℕ) (fs : List (List ℕ)) (m : ℕ) → Indexes slots x i fs m → (kind_of f).key ≡ 0 → Indexes slots x i (fs ++ f ∷ []) m
unkeyed_line slots x i f fs m q z = record {
  falling = q.falling;
  few = q.few;
  inside = q.inside;
  given = λ k s. rw (find_with k s fs f, never k s) (given_with (found slots x i k) (find k fs) f false (q.given k s) (λ e. absurd (no_truth e)));
  is = λ k p. rw (find_with k (proper_slotted k p) fs f, never k (proper_slotted k p), q.is k p) (found_first (find k fs) f false (λ e. absurd (no_truth e)));
}
  where
    no_truth : false ≡ true → ⊥
    no_truth e = let y : ◌≡◌ {A = ℕ} 0 1 = cc in omega arith

    never : (k : List ℕ) → Slotted k → begins k f ≡ false
    never k s = not_begun k f (λ p. let a : 0 < (kind_of f).key = rw (begins_first k f s p) at s.keyed in omega arith)

pub noted_line : (slots : ℕ) → 0 < slots → (x i f : List ℕ) (fs : List (List ℕ)) (at m : ℕ) → Indexes slots x i fs m → slots + 2 * (m + 1) + 2 ≤ length i → frame_at x at ≡ f → at + frame_length (drop at x) ≤ length x → key_given fs f ≡ false → Indexes slots x (noted slots i f at m) (fs ++ f ∷ []) (entries_with f m)
noted_line slots some x i f fs at m q r l w g = go (eqb (kind_of f).key 0) refl
  where
    go : (b : Bool) → eqb (kind_of f).key 0 ≡ b → Indexes slots x (pick b i (entered slots i (slot_of slots f) at (m + 1))) (fs ++ f ∷ []) (pick b m (m + 1))
    go true p = unkeyed_line slots x i f fs m q (eqb-true _ _ p)
    go false p = rw (add-one m) (keyed_line slots some x i (entered slots i (slot_of slots f) at (suc m)) f fs at m (entry_made slots i (slot_of slots f) at m (slot_below slots some f) r) q l w g)

pub noted_length : (slots : ℕ) (i f : List ℕ) (at m : ℕ) → length (noted slots i f at m) ≡ length i
noted_length slots i f at m = go (eqb (kind_of f).key 0)
  where
    go : (b : Bool) → length (pick b i (entered slots i (slot_of slots f) at (m + 1))) ≡ length i
    go true = refl
    go false = simp length-set

-- the clash test by the index
pub given_is : (slots : ℕ) (x i f : List ℕ) (fs : List (List ℕ)) (m : ℕ) → Indexes slots x i fs m → (((kind_of f).key ≡ 0 → ⊥) → hashed (get_or f 0 0) ≤ length f) → given_by slots x i f ≡ key_given fs f
unfolding key_given
given_is slots x i f fs m q h = go (eqb (kind_of f).key 0) refl
  where
    go : (b : Bool) → eqb (kind_of f).key 0 ≡ b → pick b false (is_found (found slots x i (key_of f))) ≡ pick b false (is_found (find (key_of f) fs))
    go true p = refl
    go false p = let n = eqb-false (kind_of f).key 0 p in q.given (key_of f) (key_slotted f n (h n))

-- no entries
pub blank_indexes : (slots : ℕ) (x i : List ℕ) → ((e : ℕ) → get_or i e 0 ≡ 0) → Indexes slots x i [] 0
unfolding found searched find
blank_indexes slots x i z = record {
  falling = record { falls = λ e h. rw (z (slots + 2 * e + 1)) h };
  few = λ s h. rw (z s) (omega arith);
  inside = λ e h l. absurd (omega arith);
  given = λ k s. rw (z (slot_of slots k));
  is = λ k p. rw (z (slot_of slots k));
}

-- ---- the code's ways

module _ (i f : List ℕ) (at m b k : ℕ) (p : b ≡ get_or f 0 0) (q : k ≡ (kind_at b).key) where
  pub note_none : k ≡ 0 → (i ≡ noted (slots_for (length i)) i f at m) × (m ≡ entries_with f m)
  note_none z = (rw (← p, ← q, eq-eqb _ _ z), rw (← p, ← q, eq-eqb _ _ z))

  pub note_some : (h slots s : ℕ) → (k ≡ 0 → ⊥) → h ≡ hash_of f → slots ≡ slots_for (length i) → s ≡ h % slots_for (length i) → (entered slots i s at (m + 1) ≡ noted (slots_for (length i)) i f at m) × (m + 1 ≡ entries_with f m)
  note_some h slots s z r n e = (rw (← p, ← q, ne_eqb _ _ z, n, e, r), rw (← p, ← q, ne_eqb _ _ z))
