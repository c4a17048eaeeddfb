-- The second reading, a test and a frame at a time. Assumes nothing.
use Prim.Native.Nat.{ℕ, suc, ◌+◌, ◌-◌, ◌*◌, ◌<◌, ◌≤◌}
use mathlib.Core.Path.{◌≡◌, refl, sym, ◌∙◌, ap}
use mathlib.Core.Bool.{Bool, true, false, not, true≢false}
use mathlib.Core.List.{List, [], ◌∷◌, ◌++◌, append-nil, append_assoc}
use native.Mathlib.Numerals.{add-one}
use native.Mathlib.Omega.{arith}
use lib.ListN.{length, get_or, drop}
use lib.Dec.{eqb}
use borrow.Author.Tests.{eq-eqb, ne_eqb, eqb-true, not-true, not-false}
use Rattle.class_sets.specs.Choose.{pick}
use Rattle.class_sets.specs.Limits.{atoms_most}
use Rattle.class_sets.specs.Fields.{field_passes}
use Rattle.class_sets.specs.Sets.{set_words, has_class}
use Rattle.class_sets.proofs.SetLaws.{no_class}
use Rattle.indexing.specs.Kinds.{kind_at}
use Rattle.indexing.specs.Rows.{tests_of}
use Rattle.indexing.specs.Among.{is_between, has_kinds}
use Rattle.indexing.specs.Frames.{kind_of, frame_passes}
use Rattle.indexing.specs.Sheet.{frame_at, frames_in, Whole}
use Rattle.first_reading.specs.First.{or_else}
use Rattle.first_reading.proofs.ReadingLaws.{or_stops, or_passes}
use Rattle.class_sets.specs.Counts.{Counts}
use Rattle.class_sets.specs.Test.TheVariants.{Range, Reals}
use Rattle.first_reading.specs.Text.{Text}
use Rattle.first_reading.specs.Text.TheVariants.{Query, Plan}
use Rattle.first_reading.specs.Reading.{Reading}
use Rattle.first_reading.specs.Reading.{Accepted, Refused}
use Rattle.indexing.proofs.UnreadLaws.{range_unread, reals_unread}
use Rattle.indexing.proofs.SheetLaws.{frames_end, frame_some, frame_within, frame_inside, frames_step}
use Rattle.indexing.specs.Keys.{key_given}
use Rattle.second_reading.specs.FromTable.{takes_table}
use Rattle.second_reading.specs.Leading.{leads, has_leaders, is_leader}
use Rattle.second_reading.specs.Second.{header_counts, counts_in_by, fault_of, second_fault, second_from}
use Rattle.indexing.specs.Index.{slots_for, given_by, noted, entries_with, Noting, Indexes}
use Rattle.second_reading.specs.Rereading.{fields_fault, chained_by, index_size, BlankFor, LeadersFor, Marked, Rereads}
use Rattle.indexing.proofs.SlotLaws.{slots_some, keyed_counts}
use Rattle.indexing.proofs.NoteLaws.{noted_line, noted_length, given_is, blank_indexes}
use Rattle.second_reading.proofs.EntryLaws.{lacking, lacking_most, entered_still}
use Rattle.second_reading.proofs.LeadingLaws.{chained_is, leader_more}

module _ (b : Bool) (t : Text) (s h : List ℕ) (c : ℕ) (r : Counts) (p : h ≡ frame_at s 0) where
  pub query_counts : t ≡ Query → r ≡ header_counts b h c → r ≡ counts_in_by b t s c
  query_counts q g = g ∙ rw (q, p)

  pub plan_counts_lem : t ≡ Plan → r ≡ header_counts b h atoms_most → r ≡ counts_in_by b t s c
  plan_counts_lem q g = g ∙ rw (q, p)

-- the key's length, by the frame's first byte
pub key_here : (f : List ℕ) (b k : ℕ) → b ≡ get_or f 0 0 → k ≡ (kind_at b).key → k ≡ (kind_of f).key
key_here f b k p q = q ∙ rw p

-- 5 and 6: where the tests of its kind are below 8, neither looks at the frame
module _ (n : Counts) (f : List ℕ) where
  pub fields_unread : (b : ℕ) → b ≡ tests_of (kind_of f) → b < 8 → 0 ≡ fields_fault n f
  fields_unread b p h = rw (← range_unread f b p n (omega arith), ← reals_unread f b p n (omega arith))

  module _ (a : Bool) (p : a ≡ frame_passes (field_passes Range n) f) where
    pub fields_5 : not a ≡ true → 5 ≡ fields_fault n f
    fields_5 h = rw (← p, not-true a h)

    module _ (h : not a ≡ false) (b : Bool) (q : b ≡ frame_passes (field_passes Reals n) f) where
      pub fields_none : b ≡ true → 0 ≡ fields_fault n f
      fields_none e = rw (← p, not-false a h, ← q, e)

      pub fields_6 : b ≡ false → 6 ≡ fields_fault n f
      fields_6 e = rw (← p, not-false a h, ← q, e)

-- all five, by the first of 5 and 6 that fails
module _ (n : Counts) (f : List ℕ) (g l : Bool) (e : ℕ) (p : e ≡ fields_fault n f) where
  abbrev rest : ℕ
  rest = pick g 7 (pick l 14 (pick (takes_table f) (pick n.table 0 13) 0))

  pub fault_first : (e ≡ 0 → ⊥) → e ≡ fault_of n f g l
  fault_first z = by (frame_passes (field_passes Range n) f) (frame_passes (field_passes Reals n) f) p
    where
      by : (a b : Bool) → e ≡ pick a (pick b 0 6) 5 → e ≡ pick a (pick b rest 6) 5
      by true true q = absurd (z q)
      by true false q = q
      by false b q = q

  module _ (z : e ≡ 0) where
    goes_on : fault_of n f g l ≡ rest
    goes_on = by (frame_passes (field_passes Range n) f) (frame_passes (field_passes Reals n) f) (sym p ∙ z)
      where
        by : (a b : Bool) → pick {A = ℕ} a (pick b 0 6) 5 ≡ 0 → pick a (pick b rest 6) 5 ≡ rest
        by true true q = refl
        by true false q = absurd (omega arith)
        by false b q = absurd (omega arith)

    module _ (c : Bool) (r : c ≡ g) where
      pub fault_7 : c ≡ true → 7 ≡ fault_of n f g l
      fault_7 y = rw (goes_on, ← r, y)

      module _ (y : c ≡ false) (w : Bool) (u : w ≡ l) where
        pub fault_14 : w ≡ true → 14 ≡ fault_of n f g l
        fault_14 x = rw (goes_on, ← r, y, ← u, x)

        module _ (x : w ≡ false) (k : ℕ) (d : k ≡ get_or f 0 0) where
          pub fault_none : (k ≡ 0x24 → ⊥) → 0 ≡ fault_of n f g l
          fault_none o = rw (goes_on, ← r, y, ← u, x, ← d, ne_eqb k 0x24 o)

          module _ (o : k ≡ 0x24) where
            pub fault_table : n.table ≡ true → 0 ≡ fault_of n f g l
            fault_table v = rw (goes_on, ← r, y, ← u, x, ← d, eq-eqb k 0x24 o, v)

            pub fault_13 : n.table ≡ false → 13 ≡ fault_of n f g l
            fault_13 v = rw (goes_on, ← r, y, ← u, x, ← d, eq-eqb k 0x24 o, v)

-- a line without a fault has a new key
fresh_key : (n : Counts) (f : List ℕ) (g l : Bool) → fault_of n f g l ≡ 0 → g ≡ false
fresh_key n f g l p = go (frame_passes (field_passes Range n) f) (frame_passes (field_passes Reals n) f) g (pick l 14 (pick (takes_table f) (pick n.table 0 13) 0)) p
  where
    go : (a b g : Bool) (v : ℕ) → pick {A = ℕ} a (pick b (pick g 7 v) 6) 5 ≡ 0 → g ≡ false
    go true true true v q = absurd (omega arith)
    go true true false v q = refl
    go true false g v q = absurd (omega arith)
    go false b g v q = absurd (omega arith)

-- and one that takes samples from a table has one
pub table_there : (n : Counts) (f : List ℕ) (g l : Bool) → fault_of n f g l ≡ 0 → takes_table f ≡ true → n.table ≡ true
table_there n f g l p = go (frame_passes (field_passes Range n) f) (frame_passes (field_passes Reals n) f) g l (takes_table f) n.table p
  where
    go : (a b g l t d : Bool) → pick {A = ℕ} a (pick b (pick g 7 (pick l 14 (pick t (pick d 0 13) 0))) 6) 5 ≡ 0 → t ≡ true → d ≡ true
    go true true true l t d q e = absurd (omega arith)
    go true true false true t d q e = absurd (omega arith)
    go true true false false true true q e = refl
    go true true false false true false q e = absurd (omega arith)
    go true true false false false d q e = absurd (true≢false (sym e))
    go true false g l t d q e = absurd (omega arith)
    go false b g l t d q e = absurd (omega arith)

-- a second reading that accepts says what the first one said
pub accepts : (n : Counts) (e : List (List ℕ)) (k : ℕ) (fs : List (List ℕ)) (m c n' c' : ℕ) → second_from n e k fs (Accepted m c) ≡ Accepted n' c' → n' ≡ m
unfolding second_from
accepts n e k [] m c n' c' h = let z : m ≡ n' = cc in sym z
accepts n e k (f ∷ fs) m c n' c' h = accepts n (e ++ f ∷ []) (suc k) fs m c n' c' (or_passes (second_fault n e f) k _ n' c' h).1

-- k frames, the earlier ones, are passed, m of them entered in i, their leaders marked in B, and those from `at` on say the rest
pub record Rereading (n : Counts) (s : List ℕ) (a : Reading) (i₀ B₀ i B : List ℕ) (at k m : ℕ) : Type 0 where
  pub few : k ≤ at
  pub within : at ≤ length s
  pub earlier : List (List ℕ)
  pub all : earlier ++ frames_in (drop at s) ≡ frames_in s
  pub is : second_from n [] 0 (frames_in s) a ≡ second_from n earlier k (frames_in (drop at s)) a
  pub index : Indexes (slots_for (length i)) s i earlier m
  pub entries : m * 3 ≤ at + lacking earlier
  pub whole : Whole (frames_in (drop at s))
  pub size : length s ≤ 32768
  pub room : index_size (slots_for (length i)) (length s) ≤ length i
  pub same : length i ≡ length i₀
  pub leaders : (c : ℕ) → has_class B c ≡ is_leader c earlier
  pub words : has_leaders (frames_in (drop at s)) ≡ true → length B ≡ set_words
  pub alike : length B ≡ length B₀

pub from_blank : (n : Counts) (s : List ℕ) (a : Reading) (i B : List ℕ) → BlankFor s i → LeadersFor s B → Rereading n s a i B i B 0 0 0
unfolding is_leader
from_blank n s a i B b l = record {
  few = omega arith;
  within = omega arith;
  earlier = [];
  all = refl;
  is = refl;
  index = blank_indexes (slots_for (length i)) s i b.blank;
  entries = omega arith;
  whole = b.whole;
  size = b.size;
  room = b.room;
  same = refl;
  leaders = no_class B l.blank;
  words = l.room;
  alike = refl;
}

module _ (n : Counts) (s : List ℕ) (a : Reading) (i₀ B₀ i B : List ℕ) (at k m : ℕ) (q : Rereading n s a i₀ B₀ i B at k m) where
  pub all_indexed : length s ≤ at → Rereads n s a i a
  unfolding second_from
  all_indexed h =
      let z = frames_end s at h in
      let e : q.earlier ≡ frames_in s = sym (append-nil q.earlier) ∙ ap (λ (fs : List (List ℕ)). q.earlier ++ fs) (sym z) ∙ q.all in
      record { is = sym (q.is ∙ rw z); indexed = λ b c p. record { entries = m; are = rw e at q.index } }

  pub noting : at < length s → Noting (slots_for (length i)) i at m
  noting h = let l = lacking_most q.earlier in record { room = omega (arith, q.room, q.entries); place = omega (arith, q.size); few = omega (arith, q.size, q.entries) }

  -- the frame f at `at`
  module _ (h : at < length s) (f : List ℕ) (taken : f ≡ frame_at s at) where
    step : frames_in (drop at s) ≡ f ∷ frames_in (drop (at + length f) s)
    step = frames_step s at h f taken

    wholes : Whole (f ∷ frames_in (drop (at + length f) s))
    wholes = rw step at q.whole

    pub next_within : at + length f ≤ length s
    next_within = frame_within s at h f taken

    pub next_less : length s - (at + length f) < length s - at
    next_less = omega (arith, frame_some s at h f taken)

    pub next_fits : at + length f ≤ 32768
    next_fits = omega (arith, next_within, q.size)

    -- where it is a frame 34 the set has room, and so it has for those behind it
    pub room_here : leads f ≡ true → length B ≡ set_words
    unfolding has_kinds
    room_here t = q.words (rw step (between (get_or f 0 0) t))
      where
        between : (b : ℕ) → eqb b 0x34 ≡ true → pick (is_between 0x34 0x34 b) true (has_kinds 0x34 0x34 (frames_in (drop (at + length f) s))) ≡ true
        between b e = rw (eqb-true b 0x34 e)

    room_behind : has_leaders (frames_in (drop (at + length f) s)) ≡ true → length B ≡ set_words
    unfolding has_kinds
    room_behind t = q.words (rw (step, t) (either (is_between 0x34 0x34 (get_or f 0 0))))
      where
        either : (b : Bool) → pick b true true ≡ true
        either true = refl
        either false = refl

    module _ (v : ℕ) (g : v ≡ fault_of n f (given_by (slots_for (length i)) s i f) (chained_by s i B f)) where
      given_here : given_by (slots_for (length i)) s i f ≡ key_given q.earlier f
      given_here = given_is (slots_for (length i)) s i f q.earlier m q.index (keyed_counts f wholes.0)

      fault_here : v ≡ second_fault n q.earlier f
      unfolding second_fault
      fault_here = g ∙ rw (given_here, chained_is s i B q.earlier m q.index q.leaders f)

      says : second_from n [] 0 (frames_in s) a ≡ or_else v k (second_from n (q.earlier ++ f ∷ []) (suc k) (frames_in (drop (at + length f) s)) a)
      unfolding second_from
      says = q.is ∙ rw (step, ← fault_here)

      pub frame_refused : (v ≡ 0 → ⊥) → Rereads n s a i (Refused v (k + 1))
      frame_refused z = record {
        is = sym (says ∙ or_stops v k _ z ∙ rw (add-one k));
        indexed = λ b c p. let y : ◌≡◌ {A = ℕ} 0 1 = cc in absurd (omega arith);
      }

      pub frame_entered : v ≡ 0 → (j : List ℕ) (m' : ℕ) → j ≡ noted (slots_for (length i)) i f at m → m' ≡ entries_with f m → (C : List ℕ) → Marked B C f → Rereading n s a i₀ B₀ j C (at + length f) (k + 1) m'
      frame_entered z j m' u w C d =
          let new : key_given q.earlier f ≡ false = sym given_here ∙ fresh_key n f (given_by (slots_for (length i)) s i f) (chained_by s i B f) (sym g ∙ z) in
          let o : length j ≡ length i = ap length u ∙ noted_length (slots_for (length i)) i f at m in
          record {
            few = omega (arith, q.few, frame_some s at h f taken);
            within = next_within;
            earlier = q.earlier ++ f ∷ [];
            all = append_assoc q.earlier (f ∷ []) (frames_in (drop (at + length f) s)) ∙ ap (λ (fs : List (List ℕ)). q.earlier ++ fs) (sym step) ∙ q.all;
            is = says ∙ rw (z, add-one k);
            index = rw (o, u, w) (noted_line (slots_for (length i)) (slots_some (length i)) s i f q.earlier at m q.index (noting h).room (sym taken) (frame_inside s at h f taken wholes.0) new);
            entries = rw w (entered_still q.earlier f at m wholes.0 new q.entries);
            whole = wholes.1;
            size = q.size;
            room = rw o q.room;
            same = o ∙ q.same;
            leaders = λ c. rw (leader_more c q.earlier f, ← q.leaders c) (d.is c);
            words = λ t. d.same ∙ room_behind t;
            alike = d.same ∙ q.alike;
          }
