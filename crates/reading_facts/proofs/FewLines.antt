-- No line that is told is above 32,769, and an accepted text has at most 32,768 lines: each line has a byte and its end. Assumes nothing.
use Prim.Native.Nat.{ℕ, zero, suc, ◌+◌, ◌*◌, ◌≤◌}
use mathlib.Core.Path.{◌≡◌, refl}
use mathlib.Core.Bool.{Bool, true, false}
use mathlib.Core.List.{List, [], ◌∷◌}
use native.Mathlib.Omega.{arith}
use lib.ListN.{length, get_or, length-map}
use lib.Dec.{ltb, eqb}
use borrow.Author.Tests.{le-ltb, ne_eqb, ltb-true, ltb-false}
use Rattle.reading.proofs.ChooseLaws.{pick_elim}
use Rattle.reading.specs.Digits.{bytes_of}
use Rattle.reading.specs.Lines.{Split, split, with_line, with_byte}
use Rattle.reading.specs.Limits.{text_most}
use Rattle.reading.specs.Faults.{counted}
use Rattle.reading.specs.First.{frames_of, line_fault, or_else, first_lines, first_from, steps_say, steps_right}
use Rattle.reading.specs.Counts.{Counts}
use Rattle.reading.specs.Text.{Text}
use Rattle.reading.specs.Text.TheVariants.{Query, Plan, Table}
use Rattle.reading.specs.Reading.{Reading}
use Rattle.reading.specs.Reading.{Accepted, Refused}
use Rattle.reading.specs.FromTable.{table_for}
use Rattle.reading.specs.Second.{counts_by, second_fault, second_from, second, reading_by, reading, query_reading}
use Rattle.reading_facts.proofs.AnswersLaws.{too_long, empty_query, empty_plan, empty_table}
use Rattle.reading_facts.proofs.Whole.{accepted}

-- the bytes of ended lines
weight : List (List ℕ) → ℕ
weight [] = 0
weight (l ∷ ls) = length l + 1 + weight ls

byte_weight : (b : ℕ) (ls : List (List ℕ)) (r : List ℕ) → weight (with_byte b ls r).ended + length (with_byte b ls r).rest ≡ suc (weight ls + length r)
unfolding weight
byte_weight b [] r = omega arith
byte_weight b (l ∷ ls) r = omega arith

split_weight : (x : List ℕ) → weight (split x).ended + length (split x).rest ≡ length x
unfolding split weight
split_weight [] = refl
split_weight (b ∷ x) =
    let s = split x in
    let h = split_weight x in
    pick_elim (λ (q : Split). weight q.ended + length q.rest ≡ suc (length x)) (eqb b 10) (with_line [] s) (with_byte b s.ended s.rest) (λ _. omega (arith, h)) (λ _. omega (arith, h, byte_weight b s.ended s.rest))

-- an answer about m lines of w bytes: accepted, they have two bytes each; refused, those before the line told
Low : ℕ → ℕ → Reading → Type 0
Low w m (Accepted n c) = 2 * m ≤ w
Low w m (Refused k l) = 2 * l ≤ w + 2

or_low : (w m k n : ℕ) (a : Reading) → 2 * n ≤ w → (k ≡ 0 → Low w m a) → Low w m (or_else k n a)
unfolding Low
or_low w m zero n a h g = g refl
or_low w m (suc k) n a h g = omega arith

line_long : (t : Text) (first : Bool) (c : ℕ) (l : List ℕ) → line_fault t first c l ≡ 0 → 1 ≤ length l
unfolding line_fault
line_long t first c [] z = absurd (omega (arith, z))
line_long t first c (b ∷ l) z = omega arith

module _ (w m : ℕ) where
  first_low : (t : Text) (n c : ℕ) (ls : List (List ℕ)) (r : List ℕ) → 2 * n + weight ls ≤ w → m ≡ n + length ls → Low w m (first_lines t n c ls r)
  unfolding first_lines Low weight
  first_low t n c [] [] h e = omega arith
  first_low t n c [] (b ∷ r) h e = omega arith
  first_low t n c (l ∷ ls) r h e =
      or_low w m (line_fault t (eqb n 0) c l) n (first_lines t (suc n) (counted t c (get_or (bytes_of l) 0 0)) ls r) (omega arith)
      (λ z. first_low t (suc n) (counted t c (get_or (bytes_of l) 0 0)) ls r (omega (arith, h, line_long t (eqb n 0) c l z)) (omega arith))

  steps_low : (t : Text) (x : List ℕ) (a : Reading) → Low w m a → Low w m (steps_right t x a)
  unfolding Low
  steps_low Query x a h = h
  steps_low Table x a h = h
  steps_low Plan x (Accepted n c) h = pick_elim (Low w m) (eqb (steps_say x + 1) n) _ _ (λ _. h) (λ _. omega arith)
  steps_low Plan x (Refused k l) h = h

  second_low : (n : Counts) (es : List (List ℕ)) (k : ℕ) (fs : List (List ℕ)) (a : Reading) → 2 * (k + length fs) ≤ w → Low w m a → Low w m (second_from n es k fs a)
  unfolding second_from
  second_low n es k [] a i h = h
  second_low n es k (f ∷ fs) a i h = or_low w m (second_fault n es f) k _ (omega arith) (λ _. second_low n _ (suc k) fs a (omega arith) h)

  both_low : (b : Bool) (t : Text) (x : List ℕ) (a : Reading) → m ≡ length (frames_of x) → Low w m a → Low w m (second b t x a)
  unfolding Low
  both_low b t x (Accepted n c) e h = second_low (counts_by b t x c) [] 0 (frames_of x) (Accepted n c) (omega arith) h
  both_low b t x (Refused k l) e h = h

reading_low : (b : Bool) (t : Text) (x : List ℕ) → 1 ≤ length x → length x ≤ text_most → Low (length x) (length (frames_of x)) (reading_by b t x)
unfolding reading_by frames_of
reading_low b t x h i =
    let w = length x in
    let m = length (frames_of x) in
    let e : m ≡ 0 + length (split x).ended = omega (arith, length-map (split x).ended bytes_of) in
    rw (le-ltb text_most (length x) i, ne_eqb (length x) 0 (λ z. omega arith))
    (both_low w m b t x (steps_right t x (first_from t 0 0 x)) refl (steps_low w m t x (first_from t 0 0 x) (first_low w m t 0 0 (split x).ended (split x).rest (omega (arith, split_weight x)) e)))

few_by : (b : Bool) (t : Text) (x : List ℕ) (k l : ℕ) → reading_by b t x ≡ Refused k l → l ≤ 32769
unfolding Low
few_by b t x k l p = go (ltb text_most (length x)) refl
  where
    long : (t : Text) (y : List ℕ) → 1 ≤ length y → length y ≤ text_most → reading_by b t y ≡ Refused k l → l ≤ 32769
    long t y g h q = let z : Low (length y) (length (frames_of y)) (Refused k l) = rw q at (reading_low b t y g h) in omega (arith, z)

    short : (t : Text) (y : List ℕ) → length y ≤ text_most → reading_by b t y ≡ Refused k l → l ≤ 32769
    short Query [] h q = let z : 0 ≡ l = cc (empty_query b) in omega arith
    short Plan [] h q = let z : 0 ≡ l = cc (empty_plan b) in omega arith
    short Table [] h q = let z : ◌≡◌ {A = ℕ} 0 1 = cc (empty_table b) in absurd (omega arith)
    short t (d ∷ y) h q = long t (d ∷ y) (omega arith) h q

    go : (a : Bool) → ltb text_most (length x) ≡ a → l ≤ 32769
    go true q = let z : 0 ≡ l = cc (too_long b t x (ltb-true text_most (length x) q)) in omega arith
    go false q = short t x (ltb-false text_most (length x) q) p

pub few_lines : (t : Text) (x : List ℕ) (k l : ℕ) → reading t x ≡ Refused k l → l ≤ 32769
unfolding reading
few_lines t x k l p = few_by true t x k l p

pub query_few_lines : (h : Bool) (x : List ℕ) (k l : ℕ) → query_reading h x ≡ Refused k l → l ≤ 32769
unfolding query_reading
query_few_lines h x k l p = few_by (table_for h (frames_of x)) Query x k l p

pub few_frames : (t : Text) (x : List ℕ) (n c : ℕ) → reading t x ≡ Accepted n c → length (frames_of x) ≤ 32768
unfolding reading Low frames_of split
few_frames t x n c p = by x (accepted t x n c p).size p
  where
    by : (y : List ℕ) → length y ≤ text_most → reading t y ≡ Accepted n c → length (frames_of y) ≤ 32768
    by [] h q = omega arith
    by (b ∷ y) h q = let z : Low (length (b ∷ y)) (length (frames_of (b ∷ y))) (Accepted n c) = rw q at (reading_low true t (b ∷ y) (omega arith) h) in omega (arith, z)
