-- The numbers and lines that a reading answers with: `refused_by`, `refused_number`, `refused_line`, and `query_number` and `query_line` of a query with a table
-- handed in or not. Proved test by test.
use Prim.Native.Nat.{ℕ, zero, suc, ◌+◌, ◌<◌, ◌≤◌}
use mathlib.Core.Path.{◌≡◌, refl}
use mathlib.Core.Bool.{Bool, true, false}
use mathlib.Core.List.{List, [], ◌∷◌, ◌++◌}
use native.Mathlib.Omega.{arith}
use lib.ListN.{length, get_or, length-map}
use borrow.Author.Tests.{lt-ltb, le-ltb, ne_eqb, ltb-true, ltb-false, eqb-true}
use lib.Dec.{ltb, eqb}
use Rattle.reading.specs.Choose.{pick}
use Rattle.reading.proofs.ChooseLaws.{pick_elim}
use Rattle.reading.specs.Digits.{bytes_of, short_at}
use Rattle.reading.specs.Lines.{split, is_hex}
use Rattle.reading.specs.Limits.{text_most}
use Rattle.reading.specs.Fields.{field_passes, no_counts}
use Rattle.reading.specs.Among.{is_between, has_kinds}
use Rattle.reading.specs.Frames.{frame_passes, frame_length}
use Rattle.reading.specs.Faults.{belongs, has_room, counted, frame_fault}
use Rattle.reading.specs.First.{frames_of, line_fault, or_else, first_lines, first_from, steps_say, steps_right, first_reading}
use Rattle.reading.specs.Counts.{Counts}
use Rattle.reading.specs.Test.TheVariants.{Limits, Range, Reals}
use Rattle.reading.specs.Text.{Text}
use Rattle.reading.specs.Text.TheVariants.{Query, Plan, Table}
use Rattle.reading.specs.Reading.{Reading}
use Rattle.reading.specs.Reading.{Accepted, Refused}
use Rattle.reading.specs.Keys.{key_given}
use Rattle.reading.specs.FromTable.{takes_table, table_for}
use Rattle.reading.specs.Leading.{leads, has_leaders, leader_led, is_leader}
use Rattle.reading.specs.Second.{counts_by, second_fault, second_from, second, reading_by, reading, query_reading}
use Rattle.reading.proofs.LeadLaws.{leaders_table}

-- ---- "line 0 for an empty query or plan (2), a text too long (4)"

module _ (b : Bool) where
  pub too_long : (t : Text) (x : List ℕ) → text_most < length x → reading_by b t x ≡ Refused 4 0
  unfolding reading_by
  too_long t x h = rw (lt-ltb text_most (length x) h)

  pub empty_query : reading_by b Query [] ≡ Refused 2 0
  unfolding reading_by
  empty_query = refl

  pub empty_plan : reading_by b Plan [] ≡ Refused 2 0
  unfolding reading_by
  empty_plan = refl

  -- "Table (may be empty)"
  pub empty_table : reading_by b Table [] ≡ Accepted 0 0
  unfolding reading_by split
  empty_table = refl

-- ---- any other text is refused by a number from 1 to 7, a query also by 13 where there is no table to take samples from, and a table by 14, at a
-- line from 1; a last line that is not ended counts

abbrev pub highest : Text → Bool → ℕ
highest Query b = pick b 7 13
highest Plan b = pick b 7 13
highest Table b = 14

-- a refusal by a number up to h, at one of m lines
pub record Told (h m k l : ℕ) : Type 0 where
  pub low : 1 ≤ k
  pub high : k ≤ h
  pub from : 1 ≤ l
  pub to : l ≤ m

-- which numbers there are in the second reading: 13 without a table, 14 with frames 34
record High (h : ℕ) (table leaders : Bool) : Type 0 where
  pub some : 7 ≤ h
  pub without : table ≡ false → 13 ≤ h
  pub led : leaders ≡ true → 14 ≤ h

high_some : (t : Text) (b : Bool) → 7 ≤ highest t b
high_some Query true = omega arith
high_some Query false = omega arith
high_some Plan true = omega arith
high_some Plan false = omega arith
high_some Table b = omega arith

high_without : (t : Text) (b : Bool) → b ≡ false → 13 ≤ highest t b
high_without Query b p = rw p (omega arith)
high_without Plan b p = rw p (omega arith)
high_without Table b p = omega arith

high_led : (t : Text) (b : Bool) → t ≡ Table → 14 ≤ highest t b
high_led t b p = rw p (omega arith)

high_query : (b : Bool) → highest Query b ≤ 13
high_query true = omega arith
high_query false = omega arith

high_most : (t : Text) (b : Bool) → highest t b ≤ 14
high_most Query true = omega arith
high_most Query false = omega arith
high_most Plan true = omega arith
high_most Plan false = omega arith
high_most Table b = omega arith

Tells : ℕ → ℕ → Reading → Type 0
Tells h m (Accepted n c) = Unit {0}
Tells h m (Refused k l) = Told h m k l

or_tells : (h m k n : ℕ) (a : Reading) → k ≤ h → n < m → Tells h m a → Tells h m (or_else k n a)
unfolding Tells
or_tells h m zero n a i j g = g
or_tells h m (suc k) n a i j g = record { low = omega arith; high = i; from = omega arith; to = j }

small : ℕ → Type 0
small k = k ≤ 7

frame_number : (t : Text) (first : Bool) (c : ℕ) (f : List ℕ) → small (frame_fault t first c f)
unfolding frame_fault small
frame_number t first c f =
    pick_elim small (belongs t first (get_or f 0 0)) _ _
    (λ _. pick_elim small (eqb (length f) (frame_length f)) _ _
    (λ _. pick_elim small (frame_passes (field_passes Limits no_counts) f) _ _
    (λ _. pick_elim small (has_room t c (get_or f 0 0)) _ _ (λ _. omega arith) (λ _. omega arith))
    (λ _. omega arith))
    (λ _. omega arith))
    (λ _. omega arith)

line_number : (t : Text) (first : Bool) (c : ℕ) (l : List ℕ) → line_fault t first c l ≤ 7
unfolding line_fault small
line_number t first c l = pick_elim small (is_hex l) _ _ (λ _. frame_number t first c (bytes_of l)) (λ _. omega arith)

second_number : (h : ℕ) (n : Counts) (es : List (List ℕ)) (f : List ℕ) → High h n.table (leads f) → second_fault n es f ≤ h
unfolding second_fault
second_number h n es f g = go (frame_passes (field_passes Range n) f) (frame_passes (field_passes Reals n) f) (key_given es f) (leads f) (pick (leader_led (es ++ f ∷ []) f) true (is_leader (short_at f 1) es)) (takes_table f) n.table g
  where
    go : (a b c d e i j : Bool) → High h j d → pick a (pick b (pick c 7 (pick (pick d e false) 14 (pick i (pick j 0 13) 0))) 6) 5 ≤ h
    go false b c d e i j q = omega (arith, q.some)
    go true false c d e i j q = omega (arith, q.some)
    go true true true d e i j q = q.some
    go true true false true true i j q = q.led refl
    go true true false true false true true q = omega arith
    go true true false true false true false q = q.without refl
    go true true false true false false j q = omega arith
    go true true false false e true true q = omega arith
    go true true false false e true false q = q.without refl
    go true true false false e false j q = omega arith

-- of a frame, and of those behind it
first_high : (h : ℕ) (b : Bool) (f : List ℕ) (fs : List (List ℕ)) → High h b (has_leaders (f ∷ fs)) → High h b (leads f)
unfolding has_kinds
first_high h b f fs g = record { some = g.some; without = g.without; led = λ p. let e : get_or f 0 0 ≡ 0x34 = eqb-true (get_or f 0 0) 0x34 p in g.led (rw e) }

rest_high : (h : ℕ) (b : Bool) (f : List ℕ) (fs : List (List ℕ)) → High h b (has_leaders (f ∷ fs)) → High h b (has_leaders fs)
unfolding has_kinds
rest_high h b f fs g = record { some = g.some; without = g.without; led = λ p. g.led (rw p (either (is_between 0x34 0x34 (get_or f 0 0)))) }
  where
    either : (a : Bool) → pick a true true ≡ true
    either true = refl
    either false = refl

counts_table : (b : Bool) (t : Text) (x : List ℕ) (c : ℕ) → (counts_by b t x c).table ≡ b
counts_table b Query x c = refl
counts_table b Plan x c = refl
counts_table b Table x c = refl

module _ (h m : ℕ) where
  first_tells : (t : Text) (n c : ℕ) (ls : List (List ℕ)) (r : List ℕ) → 7 ≤ h → n + length ls < m → Tells h m (first_lines t n c ls r)
  unfolding first_lines Tells
  first_tells t n c [] [] g i = tt
  first_tells t n c [] (d ∷ r) g i = record { low = omega arith; high = omega arith; from = omega arith; to = omega arith }
  first_tells t n c (l ∷ ls) r g i =
      or_tells h m (line_fault t (eqb n 0) c l) n _ (omega (arith, line_number t (eqb n 0) c l)) (omega arith)
      (first_tells t (suc n) (counted t c (get_or (bytes_of l) 0 0)) ls r g (omega arith))

  steps_tells : (t : Text) (x : List ℕ) (a : Reading) → 7 ≤ h → 1 ≤ m → Tells h m a → Tells h m (steps_right t x a)
  unfolding Tells
  steps_tells Query x a g i q = q
  steps_tells Table x a g i q = q
  steps_tells Plan x (Accepted n c) g i q =
      pick_elim (Tells h m) (eqb (steps_say x + 1) n) _ _ (λ _. tt)
      (λ _. record { low = omega arith; high = omega arith; from = omega arith; to = i })
  steps_tells Plan x (Refused k l) g i q = q

  second_tells : (n : Counts) (es : List (List ℕ)) (k : ℕ) (fs : List (List ℕ)) (a : Reading) → High h n.table (has_leaders fs) → k + length fs ≤ m → Tells h m a → Tells h m (second_from n es k fs a)
  unfolding second_from Tells
  second_tells n es k [] a g i q = q
  second_tells n es k (f ∷ fs) a g i q =
      or_tells h m (second_fault n es f) k _ (second_number h n es f (first_high h n.table f fs g)) (omega arith)
      (second_tells n _ (suc k) fs a (rest_high h n.table f fs g) (omega arith) q)

  both_tell : (b : Bool) (t : Text) (x : List ℕ) (a : Reading) → ((n c : ℕ) → a ≡ Accepted n c → High h b (has_leaders (frames_of x))) → length (frames_of x) ≤ m → Tells h m a → Tells h m (second b t x a)
  unfolding Tells
  both_tell b t x (Accepted n c) g i q =
      let e : High h (counts_by b t x c).table (has_leaders (frames_of x)) = rw (counts_table b t x c) (g n c refl) in
      second_tells (counts_by b t x c) [] 0 (frames_of x) (Accepted n c) e (omega arith) q
  both_tell b t x (Refused k l) g i q = q

first_told : (b : Bool) (t : Text) (x : List ℕ) → 1 ≤ length x → length x ≤ text_most → Tells (highest t b) (length (frames_of x) + 1) (first_reading t x)
unfolding first_reading frames_of
first_told b t x h i =
    let m = length (frames_of x) + 1 in
    let e : length (split x).ended < m = omega (arith, length-map (split x).ended bytes_of) in
    let g = high_some t b in
    rw (le-ltb text_most (length x) i, ne_eqb (length x) 0 (λ z. omega arith))
    (steps_tells (highest t b) m t x (first_from t 0 0 x) g (omega arith) (first_tells (highest t b) m t 0 0 (split x).ended (split x).rest g (omega arith)))

reading_tells : (b : Bool) (t : Text) (x : List ℕ) → 1 ≤ length x → length x ≤ text_most → Tells (highest t b) (length (frames_of x) + 1) (reading_by b t x)
unfolding reading_by
reading_tells b t x h i = both_tell (highest t b) m b t x (first_reading t x) high (omega arith) first
  where
    m : ℕ
    m = length (frames_of x) + 1

    high : (n c : ℕ) → first_reading t x ≡ Accepted n c → High (highest t b) b (has_leaders (frames_of x))
    high n c p = record { some = high_some t b; without = high_without t b; led = λ q. high_led t b (leaders_table t x n c p q) }

    first : Tells (highest t b) (length (frames_of x) + 1) (first_reading t x)
    first = first_told b t x h i

line_by : (b : Bool) (t : Text) (x : List ℕ) (k l : ℕ) → 1 ≤ length x → length x ≤ text_most → reading_by b t x ≡ Refused k l → Told (highest t b) (length (frames_of x) + 1) k l
unfolding Tells
line_by b t x k l h i p = rw p at (reading_tells b t x h i)

number_by : (b : Bool) (t : Text) (x : List ℕ) (k l : ℕ) → reading_by b t x ≡ Refused k l → (1 ≤ k) × (k ≤ highest t b)
number_by b t x k l p = go (ltb text_most (length x)) refl
  where
    told : (t : Text) (n : ℕ) → n ≡ k → 1 ≤ n → n ≤ 7 → (1 ≤ k) × (k ≤ highest t b)
    told t n e g h = (omega arith, omega (arith, high_some t b))

    short : (t : Text) (y : List ℕ) → length y ≤ text_most → reading_by b t y ≡ Refused k l → (1 ≤ k) × (k ≤ highest t b)
    short Query [] h q = let z : 2 ≡ k = cc (empty_query b) in told Query 2 z (omega arith) (omega arith)
    short Plan [] h q = let z : 2 ≡ k = cc (empty_plan b) in told Plan 2 z (omega arith) (omega arith)
    short Table [] h q = let z : ◌≡◌ {A = ℕ} 0 1 = cc (empty_table b) in absurd (omega arith)
    short t (d ∷ y) h q = let e = line_by b t (d ∷ y) k l (omega arith) h q in (e.low, e.high)

    go : (a : Bool) → ltb text_most (length x) ≡ a → (1 ≤ k) × (k ≤ highest t b)
    go true q = let z : 4 ≡ k = cc (too_long b t x (ltb-true text_most (length x) q)) in told t 4 z (omega arith) (omega arith)
    go false q = short t x (ltb-false text_most (length x) q) p

pub refused_line : (t : Text) (x : List ℕ) (k l : ℕ) → 1 ≤ length x → length x ≤ text_most → reading t x ≡ Refused k l → Told (highest t true) (length (frames_of x) + 1) k l
unfolding reading
refused_line t x k l h i p = line_by true t x k l h i p

-- 7 is the highest of a plan, and of a query but for 13
pub refused_by : (t : Text) (x : List ℕ) (k l : ℕ) → reading t x ≡ Refused k l → (1 ≤ k) × (k ≤ highest t true)
unfolding reading
refused_by t x k l p = number_by true t x k l p

pub refused_number : (t : Text) (x : List ℕ) (k l : ℕ) → reading t x ≡ Refused k l → (1 ≤ k) × (k ≤ 14)
refused_number t x k l p = let n = refused_by t x k l p in (n.0, omega (arith, n.1, high_most t true))

pub query_line : (h : Bool) (x : List ℕ) (k l : ℕ) → 1 ≤ length x → length x ≤ text_most → query_reading h x ≡ Refused k l → Told (highest Query (table_for h (frames_of x))) (length (frames_of x) + 1) k l
unfolding query_reading
query_line h x k l g i p = line_by (table_for h (frames_of x)) Query x k l g i p

pub query_number : (h : Bool) (x : List ℕ) (k l : ℕ) → query_reading h x ≡ Refused k l → (1 ≤ k) × (k ≤ 13)
unfolding query_reading
query_number h x k l p =
    let b = table_for h (frames_of x) in
    let n = number_by b Query x k l p in
    (n.0, omega (arith, n.1, high_query b))
