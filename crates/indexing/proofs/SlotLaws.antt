-- The hash of a key: by its bytes in turn, and the same for a frame that begins with the key; its slot. Assumes nothing.
use Prim.Native.Nat.{min, ℕ, zero, suc, ◌+◌, ◌*◌, ◌%◌, ◌<◌, ◌≤◌}
use mathlib.Core.Path.{◌≡◌, refl, sym, ◌∙◌}
use mathlib.Core.Bool.{Bool, true, false}
use mathlib.Core.List.{List, [], ◌∷◌}
use native.Mathlib.Numerals.{add-one}
use native.Mathlib.Nat.{mod-lt}
use native.Mathlib.Omega.{arith}
use lib.ListN.{length, get_or, take, drop, drop_of_length-le}
use lib.Seq.{drop-cons, get_or-take, length-take-le, take_all, take-length, take-nil, take-take}
use lib.Dec.{T, eqb, leb, ltb, leb→le}
use borrow.Author.Tests.{lt-ltb, le-ltb, eq-eqb, ne_eqb, le-leb, lt-leb, eqb-true, leb-true, leb-false, ltb-true, ltb-false}
use Rattle.frame_keys.specs.Choose.{pick}
use Rattle.frame_keys.proofs.ChooseLaws.{pick_elim}
use Rattle.frame_keys.specs.Table.{all}
use Rattle.frame_keys.specs.Kinds.{Kind, kinds, kind_at, fixed_length}
use Rattle.frame_keys.specs.Frames.{kind_of, frame_length}
use Rattle.frame_keys.proofs.MatchLaws.{covers}
use Rattle.frame_keys.proofs.KindLaws.{held, no_arm}
use Rattle.frame_keys.specs.Keys.{begins, key_of}
use Rattle.indexing.specs.Index.{few_slots, many_slots, large_index, slots_for, hashes, hashed, mixed, hash_of, slot_of, Slotted, Proper}

-- there are slots, and every key has one of them
pub slots_some : (n : ℕ) → 0 < slots_for n
slots_some n = pick_elim (λ (m : ℕ). 0 < m) (ltb n large_index) few_slots many_slots (λ _. omega arith) (λ _. omega arith)

pub slot_below : (slots : ℕ) → 0 < slots → (f : List ℕ) → slot_of slots f < slots
slot_below slots h f = mod-lt (hash_of f) h

-- the code's ways
module _ (h n : ℕ) where
  pub slot_few : n < large_index → (h % few_slots ≡ h % slots_for n) × (h % few_slots < slots_for n)
  slot_few p = rw (lt-ltb n large_index p) (refl, omega arith)

  pub slot_many : large_index ≤ n → (h % many_slots ≡ h % slots_for n) × (h % many_slots < slots_for n)
  slot_many p = rw (le-ltb n large_index p) (refl, omega arith)

-- ---- how many bytes count

module _ (b v k : ℕ) (p : v ≡ (kind_at b).key) (q : k ≡ v) where
  pub hashed_all : k ≤ 6 → k ≡ hashed b
  hashed_all h = rw (← p, ← q, le-leb k 6 h)

  pub hashed_part : 6 < k → 4 ≡ hashed b
  hashed_part h = rw (← p, ← q, lt-leb k 6 h)

-- ---- the loop

pub take_least : (k m : ℕ) (f : List ℕ) → m ≡ pick (ltb k (length f)) k (length f) → take m f ≡ take k f
take_least k m f p = rw p (go (ltb k (length f)) refl)
  where
    go : (t : Bool) → ltb k (length f) ≡ t → take (pick t k (length f)) f ≡ take k f
    go true h = refl
    go false h = take-length f ∙ sym (take_all k f (ltb-false k (length f) h))

-- the smaller of two, by the test
pub least : (k m l : ℕ) → m ≡ min k l → m ≡ pick (ltb k l) k l
least k m l p = p ∙ go (ltb k l) refl
  where
    go : (t : Bool) → ltb k l ≡ t → min k l ≡ pick t k l
    go true h = let g : k < l = ltb-true k l h in omega arith
    go false h = let g : l ≤ k = ltb-false k l h in omega arith

-- i of the bytes that count are mixed
pub record Mixing (f bs : List ℕ) (h i : ℕ) : Type 0 where
  pub below : h < hashes
  pub is : hash_of f ≡ mixed h (drop i bs)

pub hash_empty : (f : List ℕ) → length f ≡ 0 → 0 ≡ hash_of f
unfolding hash_of
hash_empty [] h = rw (take-nil {A = ℕ} (hashed 0))
hash_empty (b ∷ f) h = absurd (omega arith)

pub mix_starts : (f : List ℕ) (w n : ℕ) → w ≡ hashed (get_or f 0 0) → n ≡ min w (length f) → Mixing f (take n f) 0 0
unfolding hash_of
mix_starts f w n q g =
    let e : take n f ≡ take w f = take_least w n f (least w n (length f) g) in
    record { below = omega arith; is = rw (← q, e) }

module _ (f bs : List ℕ) (h i : ℕ) (s : Mixing f bs h i) where
  pub mix_again : (w : ℕ) → i < length bs → w ≡ get_or bs i 0 → Mixing f bs ((h * 31 + w) % 512) (i + 1)
  unfolding mixed
  mix_again w g p = record { below = omega arith; is = s.is ∙ rw (add-one i, drop-cons bs i 0 g, ← p) }

  pub mix_ends : length bs ≤ i → h ≡ hash_of f
  unfolding mixed
  mix_ends g = sym (s.is ∙ rw (drop_of_length-le bs g))

-- ---- a frame that begins with a key

-- a key with a hash has a first byte
pub slotted_some : (P : List ℕ → Type 0) (k : List ℕ) → Slotted k → ((b : ℕ) (k : List ℕ) → P (b ∷ k)) → P k
unfolding kind_at
slotted_some P [] s f = absurd (omega (arith, s.keyed))
slotted_some P (b ∷ k) s f = f b k

pub proper_slotted : (k : List ℕ) → Proper k → Slotted k
proper_slotted k p = record { keyed = p.keyed; enough = go (leb (kind_at (get_or k 0 0)).key 6) refl }
  where
    go : (t : Bool) → leb (kind_at (get_or k 0 0)).key 6 ≡ t → pick t (kind_at (get_or k 0 0)).key 4 ≤ length k
    go true q = p.whole
    go false q = omega (arith, p.whole, leb-false (kind_at (get_or k 0 0)).key 6 q)

begins_more : (k b : ℕ) (key f : List ℕ) → begins (k ∷ key) (b ∷ f) ≡ true → (k ≡ b) × (begins key f ≡ true)
unfolding begins
begins_more k b key f p = go (eqb k b) refl p
  where
    go : (t : Bool) → eqb k b ≡ t → pick t (begins key f) false ≡ true → (k ≡ b) × (begins key f ≡ true)
    go true q r = (eqb-true k b q, r)
    go false q r = let z : ◌≡◌ {A = ℕ} 0 1 = cc in absurd (omega arith)

-- the first bytes agree
begins_take : (n : ℕ) (k f : List ℕ) → n ≤ length k → begins k f ≡ true → take n k ≡ take n f
unfolding begins
begins_take zero k f h p = refl
begins_take (suc n) [] f h p = absurd (omega arith)
begins_take (suc n) (b ∷ k) [] h p = let z : ◌≡◌ {A = ℕ} 0 1 = cc in absurd (omega arith)
begins_take (suc n) (b ∷ k) (d ∷ f) h p =
    let e = begins_more b d k f p in
    rw (e.0, begins_take n k f (omega arith) e.1)

pub begins_first : (k f : List ℕ) → Slotted k → begins k f ≡ true → get_or k 0 0 ≡ get_or f 0 0
unfolding begins kind_at
begins_first [] f s p = absurd (omega (arith, s.keyed))
begins_first (b ∷ k) [] s p = let z : ◌≡◌ {A = ℕ} 0 1 = cc in absurd (omega arith)
begins_first (b ∷ k) (d ∷ f) s p = (begins_more b d k f p).0

pub begins_hash : (k f : List ℕ) → Slotted k → begins k f ≡ true → hash_of k ≡ hash_of f
unfolding hash_of
begins_hash k f s p = rw (begins_take (hashed (get_or k 0 0)) k f s.enough p, begins_first k f s p)

-- and so does what begins with the key k begin with the first bytes of f, which does too
pub begins_part : (n : ℕ) (k f g : List ℕ) → n ≤ length k → begins k f ≡ true → begins k g ≡ true → begins (take n f) g ≡ true
unfolding begins
begins_part zero k f g h p q = refl
begins_part (suc n) [] f g h p q = absurd (omega arith)
begins_part (suc n) (b ∷ k) [] g h p q = let z : ◌≡◌ {A = ℕ} 0 1 = cc in absurd (omega arith)
begins_part (suc n) (b ∷ k) (d ∷ f) [] h p q = let z : ◌≡◌ {A = ℕ} 0 1 = cc in absurd (omega arith)
begins_part (suc n) (b ∷ k) (d ∷ f) (e ∷ g) h p q =
    let u = begins_more b d k f p in
    let v = begins_more b e k g q in
    rw (eq-eqb d e (sym u.0 ∙ v.0)) (begins_part n k f g (omega arith) u.1 v.1)

-- ---- the key of a frame that has its kind's length

-- what counts of a key: no more than it has
counting : ℕ → ℕ
counting n = pick (leb n 6) n 4

counting_least : (n : ℕ) → counting n ≤ n
unfolding counting
counting_least n = go (leb n 6) refl
  where
    go : (t : Bool) → leb n 6 ≡ t → pick t n 4 ≤ n
    go true q = omega arith
    go false q = omega (arith, leb-false n 6 q)

-- a kind with a key has those that count
long_kind : Kind → Bool
long_kind r = pick (eqb r.key 0) true (leb (counting r.key) (fixed_length r))

pub keyed_counts : (f : List ℕ) → length f ≡ frame_length f → ((kind_of f).key ≡ 0 → ⊥) → hashed (get_or f 0 0) ≤ length f
unfolding kind_at kinds all long_kind counting
keyed_counts f l n =
    let t : T (leb (hashed (get_or f 0 0)) (fixed_length (kind_of f))) = rw (ne_eqb (kind_of f).key 0 n) at (held long_kind kinds (get_or f 0 0) tt tt) in
    let v = leb→le (hashed (get_or f 0 0)) (fixed_length (kind_of f)) t in
    omega arith

-- and three bytes or more, but for 24, which is one
short_kind : Kind → ℕ
short_kind r = pick (eqb r.key 0) 0 (pick (leb 3 (fixed_length r)) 0 1)

pub keyed_three : (f : List ℕ) → length f ≡ frame_length f → ((kind_of f).key ≡ 0 → ⊥) → eqb (get_or f 0 0) 0x24 ≡ false → 3 ≤ length f
unfolding kinds covers short_kind
keyed_three f l n e = go (leb 3 (fixed_length (kind_of f))) refl (rw (ne_eqb (kind_of f).key 0 n) at (no_arm short_kind (λ (b : ℕ). eqb b 0x24) tt (get_or f 0 0) e))
  where
    go : (t : Bool) → leb 3 (fixed_length (kind_of f)) ≡ t → 0 ≡ pick {A = ℕ} t 0 1 → 3 ≤ length f
    go true p q = omega (arith, l, leb-true 3 (fixed_length (kind_of f)) p)
    go false p q = absurd (omega arith)

pub key_slotted : (f : List ℕ) → ((kind_of f).key ≡ 0 → ⊥) → hashed (get_or f 0 0) ≤ length f → Slotted (key_of f)
unfolding counting
key_slotted f n h = record { keyed = rw first (omega arith); enough = rw first (go (leb (kind_of f).key (length f)) refl) }
  where
    some : (k : ℕ) → (k ≡ 0 → ⊥) → 0 < k
    some zero z = absurd (z refl)
    some (suc k) z = omega arith

    first : get_or (key_of f) 0 0 ≡ get_or f 0 0
    first = get_or-take (kind_of f).key f 0 0 (some (kind_of f).key n)

    go : (t : Bool) → leb (kind_of f).key (length f) ≡ t → hashed (get_or f 0 0) ≤ length (take (kind_of f).key f)
    go true q = rw (length-take-le (kind_of f).key f (leb-true (kind_of f).key (length f) q)) (counting_least (kind_of f).key)
    go false q = let g = leb-false (kind_of f).key (length f) q in rw (take_all (kind_of f).key f (omega arith)) h

-- the key of a frame has the frame's hash
pub key_hash : (f : List ℕ) (b k w n s : ℕ) → b ≡ get_or f 0 0 → k ≡ (kind_at b).key → (k ≡ 0 → ⊥) → w ≡ k → n ≡ pick (ltb w (length f)) w (length f) → s ≡ hash_of f → s ≡ hash_of (take n f)
unfolding hash_of counting
key_hash f b k w n s p q z u g r =
    let e : take n f ≡ take k f = take_least k n f (rw (← u) g) in
    let o : k ≡ (kind_of f).key = q ∙ rw p in
    let h : get_or (take k f) 0 0 ≡ get_or f 0 0 = get_or-take k f 0 0 (some k z) in
    r ∙ sym (rw (e, h, take-take (hashed (get_or f 0 0)) k f (rw o (counting_least (kind_of f).key))))
  where
    some : (k : ℕ) → (k ≡ 0 → ⊥) → 0 < k
    some zero z = absurd (z refl)
    some (suc k) z = omega arith
