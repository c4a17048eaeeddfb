-- The reading of a query with a table handed in beside it or without one: what frame 24 changes. Assumes nothing.
use Prim.Native.Nat.{ℕ, suc}
use mathlib.Core.Path.{◌≡◌, refl, sym, ◌∙◌}
use mathlib.Core.Bool.{Bool, true, false, not, true≢false}
use mathlib.Core.List.{List, [], ◌∷◌, ◌++◌}
use native.Mathlib.Omega.{arith}
use lib.ListN.{get_or}
use lib.Dec.{eqb}
use borrow.Author.Tests.{eq-eqb, ne_eqb, eqb-true, eqb-false}
use Rattle.class_sets.specs.Choose.{pick}
use Rattle.class_sets.specs.Digits.{bytes_of}
use Rattle.class_sets.specs.Fields.{field_passes}
use Rattle.class_sets.proofs.FieldLaws.{in_same}
use Rattle.indexing.specs.Frames.{frame_passes}
use Rattle.indexing.proofs.UnreadLaws.{frame_same}
use Rattle.indexing.specs.Keys.{begins, find, is_found, key_given}
use Rattle.first_reading.specs.First.{frames_of, first_line, first_reading}
use Rattle.first_reading.proofs.ReadingLaws.{or_passes}
use Rattle.class_sets.specs.Counts.{Counts}
use Rattle.class_sets.specs.Test.TheVariants.{Range, Reals}
use Rattle.first_reading.specs.Text.TheVariants.{Query}
use Rattle.first_reading.specs.Reading.{Reading}
use Rattle.first_reading.specs.Reading.{Accepted, Refused}
use Rattle.second_reading.specs.FromTable.{takes_table, has_sheets, table_for}
use Rattle.second_reading.specs.Leading.{chained}
use Rattle.second_reading.specs.Second.{header_counts, second_fault, second_from, second, reading, query_reading}
use Rattle.second_reading.proofs.SecondLaws.{table_there}

-- frame 24 is found by its kind
takes_begins : (f : List ℕ) → begins (0x24 ∷ []) f ≡ takes_table f
unfolding begins
takes_begins [] = refl
takes_begins (b ∷ f) = go (eqb b 0x24) refl
  where
    go : (t : Bool) → eqb b 0x24 ≡ t → pick (eqb 0x24 b) true false ≡ t
    go true p = rw (eq-eqb 0x24 b (sym (eqb-true b 0x24 p)))
    go false p = rw (ne_eqb 0x24 b (λ e. eqb-false b 0x24 p (sym e)))

takes_some : (f : List ℕ) → takes_table f ≡ true → is_found f ≡ true
takes_some [] p = p
takes_some (b ∷ f) p = refl

-- one of the frames is frame 24
abbrev pub asks : List (List ℕ) → Bool
asks fs = is_found (find (0x24 ∷ []) fs)

none_first : (f : List ℕ) (fs : List (List ℕ)) → asks (f ∷ fs) ≡ false → (takes_table f ≡ false) × (asks fs ≡ false)
unfolding find
none_first f fs p = go (takes_table f) refl (rw (takes_begins f) at p)
  where
    go : (t : Bool) → takes_table f ≡ t → is_found (pick t f (find (0x24 ∷ []) fs)) ≡ false → (t ≡ false) × (asks fs ≡ false)
    go true q r = absurd (true≢false (sym (takes_some f q) ∙ r))
    go false q r = (refl, r)

-- ---- without frame 24 the second reading does not ask for a table

module _ (h : List ℕ) (c : ℕ) (b d : Bool) where
  range_same : (f : List ℕ) → frame_passes (field_passes Range (header_counts b h c)) f ≡ frame_passes (field_passes Range (header_counts d h c)) f
  unfolding field_passes
  range_same f = frame_same (field_passes Range (header_counts b h c)) (field_passes Range (header_counts d h c)) (in_same (get_or h 1 0) (get_or h 2 0) (get_or h 3 0) c 0 b d) f

  reals_same : (f : List ℕ) → frame_passes (field_passes Reals (header_counts b h c)) f ≡ frame_passes (field_passes Reals (header_counts d h c)) f
  unfolding field_passes
  reals_same f = refl

  fault_same : (es : List (List ℕ)) (f : List ℕ) → takes_table f ≡ false → second_fault (header_counts b h c) es f ≡ second_fault (header_counts d h c) es f
  unfolding second_fault
  fault_same es f t = rw (t, range_same f, reals_same f)

  second_same : (es : List (List ℕ)) (k : ℕ) (fs : List (List ℕ)) (a : Reading) → asks fs ≡ false → second_from (header_counts b h c) es k fs a ≡ second_from (header_counts d h c) es k fs a
  unfolding second_from
  second_same es k [] a p = refl
  second_same es k (f ∷ fs) a p =
      let q = none_first f fs p in
      rw (fault_same es f q.0, second_same (es ++ f ∷ []) (suc k) fs a q.1)

-- ---- an accepted frame 24 has a table

second_table : (n : Counts) (es : List (List ℕ)) (k : ℕ) (fs : List (List ℕ)) (a : Reading) (m c : ℕ) → second_from n es k fs a ≡ Accepted m c → asks fs ≡ true → n.table ≡ true
unfolding second_from find second_fault
second_table n es k [] a m c p q = absurd (true≢false (sym q))
second_table n es k (f ∷ fs) a m c p q =
    let r = or_passes (second_fault n es f) k _ m c p in
    go (takes_table f) refl (rw (takes_begins f) at q) (second_table n (es ++ f ∷ []) (suc k) fs a m c r.1) r.0
  where
    go : (t : Bool) → takes_table f ≡ t → is_found (pick t f (find (0x24 ∷ []) fs)) ≡ true → (asks fs ≡ true → n.table ≡ true) → second_fault n es f ≡ 0 → n.table ≡ true
    go true e r more z = table_there n f (key_given es f) (chained es f) z e
    go false e r more z = more r

-- ---- the whole

module _ (h : Bool) (x : List ℕ) where
  -- with a table to take samples from, and without frame 24, only the tests 1 to 7 decide
  pub query_with : table_for h (frames_of x) ≡ true → query_reading h x ≡ reading Query x
  unfolding query_reading reading
  query_with t = rw t

  pub query_without : asks (frames_of x) ≡ false → query_reading h x ≡ reading Query x
  unfolding query_reading reading
  query_without p = go (first_reading Query x)
    where
      go : (a : Reading) → second (table_for h (frames_of x)) Query x a ≡ second true Query x a
      go (Accepted n c) = second_same (bytes_of (first_line x)) c (table_for h (frames_of x)) true [] 0 (frames_of x) (Accepted n c) p
      go (Refused k l) = refl

  module _ (n c : ℕ) (p : query_reading h x ≡ Accepted n c) where
    there : asks (frames_of x) ≡ true → table_for h (frames_of x) ≡ true
    unfolding query_reading
    there q = go (first_reading Query x) p
      where
        go : (a : Reading) → second (table_for h (frames_of x)) Query x a ≡ Accepted n c → table_for h (frames_of x) ≡ true
        go (Accepted m e) r = second_table (header_counts (table_for h (frames_of x)) (bytes_of (first_line x)) e) [] 0 (frames_of x) (Accepted m e) n c r q
        go (Refused k l) r = let z : ◌≡◌ {A = ℕ} 0 1 = cc in absurd (omega arith)

    pub query_accepted : reading Query x ≡ Accepted n c
    query_accepted = go (asks (frames_of x)) refl
      where
        go : (b : Bool) → asks (frames_of x) ≡ b → reading Query x ≡ Accepted n c
        go true q = sym (query_with (there q)) ∙ p
        go false q = sym (query_without q) ∙ p

    -- an accepted query with frame 24: a table is handed in, and none of 21 to 23 stands beside it
    pub table_handed : is_found (find (0x24 ∷ []) (frames_of x)) ≡ true → (h ≡ true) × (has_sheets (frames_of x) ≡ false)
    table_handed q = go h (has_sheets (frames_of x)) (there q)
      where
        go : (a b : Bool) → pick a (not b) false ≡ true → (a ≡ true) × (b ≡ false)
        go true true r = absurd (true≢false (sym r))
        go true false r = (refl, refl)
        go false b r = absurd (true≢false (sym r))
