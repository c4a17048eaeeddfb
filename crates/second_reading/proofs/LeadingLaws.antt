-- Test 14 by the index and the set of leaders, and that set with one leader more. Assumes nothing.
use Prim.Native.Nat.{ℕ, ◌<◌}
use mathlib.Core.Path.{◌≡◌, refl, sym, ◌∙◌}
use mathlib.Core.Bool.{Bool, true, false}
use mathlib.Core.List.{List, [], ◌∷◌, ◌++◌}
use native.Mathlib.Omega.{arith}
use lib.ListN.{length, get_or}
use lib.Dec.{eqb}
use borrow.Author.Tests.{eq-eqb, ne_eqb, eqb-true, eqb-false}
use Rattle.class_sets.specs.Choose.{pick}
use Rattle.class_sets.specs.Digits.{short_at}
use Rattle.class_sets.specs.Sets.{set_words, has_class, with_class}
use Rattle.class_sets.proofs.SetLaws.{class_more, same_words}
use Rattle.indexing.specs.Kinds.{kinds, kind_at}
use Rattle.indexing.specs.Frames.{kind_of}
use Rattle.indexing.specs.Keys.{begins, find, is_found}
use Rattle.indexing.specs.Index.{slots_for, given_by, Slotted, Indexes}
use Rattle.indexing.proofs.NoteLaws.{find_more, begun_some}
use Rattle.second_reading.specs.Leading.{leads, leader_key, leads_by, is_leader, chained}
use Rattle.second_reading.specs.Rereading.{chained_by, Marked}

-- ---- the ways through the code

module _ (s i B f : List ℕ) (k : ℕ) (p : k ≡ get_or f 0 0) where
  pub chained_other : (k ≡ 0x34 → ⊥) → false ≡ chained_by s i B f
  chained_other o = rw (← p, ne_eqb k 0x34 o)

  module _ (o : k ≡ 0x34) (y z : ℕ) (e : y ≡ get_or f 3 0) (g : z ≡ get_or f 4 0) (a : Bool) (q : a ≡ begins (0x34 ∷ y ∷ z ∷ []) f) where
    pub chained_itself : a ≡ true → true ≡ chained_by s i B f
    chained_itself t = rw (← p, eq-eqb k 0x34 o, ← e, ← g, ← q, t)

    module _ (n : a ≡ false) (b : Bool) (r : b ≡ given_by (slots_for (length i)) s i (0x34 ∷ y ∷ z ∷ [])) where
      pub chained_earlier : b ≡ true → true ≡ chained_by s i B f
      chained_earlier t = rw (← p, eq-eqb k 0x34 o, ← e, ← g, ← q, n, ← r, t)

      pub chained_leader : b ≡ false → (c : ℕ) → c ≡ short_at f 1 → (d : Bool) → d ≡ has_class B c → d ≡ chained_by s i B f
      chained_leader t c u d v = v ∙ rw (← p, eq-eqb k 0x34 o, ← e, ← g, ← q, n, ← r, t, u)

-- the bytes of the key of a frame 34 are all of it
pub key_whole : (y z : ℕ) → 3 ≡ (kind_of (0x34 ∷ y ∷ z ∷ [])).key
unfolding kind_at kinds
key_whole y z = refl

module _ (B f : List ℕ) (k : ℕ) (p : k ≡ get_or f 0 0) where
  pub marked_none : (k ≡ 0x34 → ⊥) → Marked B B f
  marked_none o = record { same = refl; is = λ c. rw (← p, ne_eqb k 0x34 o) }

  module _ (o : k ≡ 0x34) (n : leads f ≡ true → length B ≡ set_words) where
    pub marked_room : length B ≡ set_words
    marked_room = n (rw (← p) (eq-eqb k 0x34 o))

    pub marked_one : (d : ℕ) → d ≡ short_at f 3 → d < 65536 → (B' : List ℕ) → B' ≡ with_class B d → Marked B B' f
    marked_one d u h B' e = record { same = rw e (same_words B d); is = λ c. rw (← p, eq-eqb k 0x34 o, ← u, e, class_more B c d marked_room h, swapped c d) }
      where
        swapped : (c d : ℕ) → eqb c d ≡ eqb d c
        swapped c d = go (eqb c d) refl
          where
            go : (t : Bool) → eqb c d ≡ t → t ≡ eqb d c
            go true q = sym (eq-eqb d c (sym (eqb-true c d q)))
            go false q = sym (ne_eqb d c (λ r. eqb-false c d q (sym r)))

-- ---- what they say of the frames before

-- a leader by one frame more
pub leader_more : (c : ℕ) (fs : List (List ℕ)) (f : List ℕ) → is_leader c (fs ++ f ∷ []) ≡ pick (leads_by c f) true (is_leader c fs)
unfolding is_leader
leader_more c [] f = refl
leader_more c (g ∷ fs) f = rw (leader_more c fs f) (swap (leads_by c g) (leads_by c f) (is_leader c fs))
  where
    swap : (a b r : Bool) → pick a true (pick b true r) ≡ pick b true (pick a true r)
    swap true true r = refl
    swap true false r = refl
    swap false b r = refl

-- the key of a frame 34 has a hash
slotted : (f : List ℕ) → Slotted (leader_key f)
unfolding kind_at kinds
slotted f = record { keyed = omega arith; enough = omega arith }

module _ (s i B : List ℕ) (fs : List (List ℕ)) (m : ℕ) (x : Indexes (slots_for (length i)) s i fs m) (marks : (c : ℕ) → has_class B c ≡ is_leader c fs) where
  entered_leader : (f : List ℕ) → given_by (slots_for (length i)) s i (leader_key f) ≡ is_found (find (leader_key f) fs)
  unfolding kind_at kinds
  entered_leader f = x.given (leader_key f) (slotted f)

  pub chained_is : (f : List ℕ) → chained_by s i B f ≡ chained fs f
  chained_is f = rw (entered_leader f, marks (short_at f 1), find_more 0x34 (get_or f 3 0 ∷ get_or f 4 0 ∷ []) fs f) (go (leads f) (begins (leader_key f) f) refl (find (leader_key f) fs))
    where
      go : (a b : Bool) → begins (leader_key f) f ≡ b → (g : List ℕ) → pick a (pick b true (pick (is_found g) true (is_leader (short_at f 1) fs))) false ≡ pick a (pick (is_found (pick (is_found g) g (pick b f []))) true (is_leader (short_at f 1) fs)) false
      go false b e g = refl
      go true true e [] = rw (begun_some 0x34 (get_or f 3 0 ∷ get_or f 4 0 ∷ []) f e)
      go true true e (z ∷ g) = refl
      go true false e [] = refl
      go true false e (z ∷ g) = refl
