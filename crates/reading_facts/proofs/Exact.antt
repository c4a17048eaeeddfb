-- A text is accepted exactly where it is whole: what an accepted text meets is also enough. Assumes nothing.
use Prim.Native.Nat.{ℕ, zero, suc, ◌+◌, ◌≤◌, ◌<◌}
use mathlib.Core.Path.{◌≡◌, refl, sym, ◌∙◌, subst}
use mathlib.Core.Bool.{Bool, true, false}
use mathlib.Core.List.{List, [], ◌∷◌, ◌++◌, map, append_assoc, append-nil}
use native.Mathlib.Omega.{arith}
use native.Mathlib.Nat.{add-zero, zero-add}
use lib.ListN.{length, get_or, take}
use lib.Seq.{get_or-take, length-take-le}
use lib.Dec.{ltb, eqb}
use borrow.Author.Tests.{lt-ltb, le-ltb, eq-eqb, ne_eqb, eqb-false}
use Rattle.reading.specs.Choose.{pick}
use Rattle.reading.specs.Digits.{bytes_of}
use Rattle.reading.specs.Lines.{split, is_hex}
use Rattle.reading.specs.Limits.{text_most}
use Rattle.reading.specs.Frames.{kind_of}
use Rattle.reading.specs.Faults.{is_counted, counted_most, counted, has_room}
use Rattle.reading.specs.First.{frames_of, line_fault, first_lines, first_from, steps_say, steps_right, first_reading}
use Rattle.reading.specs.Counts.{Counts}
use Rattle.reading.specs.Text.{Text}
use Rattle.reading.specs.Text.TheVariants.{Query, Plan, Table}
use Rattle.reading.specs.Reading.{Reading}
use Rattle.reading.specs.Reading.{Accepted}
use Rattle.reading.specs.Keys.{begins, find, is_found, key_of, key_given}
use Rattle.reading.specs.FromTable.{takes_table}
use Rattle.reading.specs.Leading.{chained}
use Rattle.reading.specs.Second.{counts_of, second_from, reading}
use Rattle.reading_facts.proofs.Whole.{Formed, Named, count_from, Whole, frames_length}

-- ---- the first reading

count_grows : (t : Text) (c : ℕ) (fs : List (List ℕ)) → c ≤ count_from t c fs
count_grows t c [] = omega arith
count_grows t c (f ∷ fs) = let h = count_grows t (counted t c (get_or f 0 0)) fs in let g = more (is_counted t (get_or f 0 0)) in omega arith
  where
    more : (a : Bool) → c ≤ pick a (c + 1) c
    more true = omega arith
    more false = omega arith

room : (t : Text) (c b : ℕ) → counted t c b ≤ counted_most t → has_room t c b ≡ true
room t c b h = go (is_counted t b) h
  where
    go : (a : Bool) → pick a (c + 1) c ≤ counted_most t → pick a (ltb c (counted_most t)) true ≡ true
    go true q = lt-ltb c (counted_most t) (omega arith)
    go false q = refl

no_fault : (t : Text) (first : Bool) (c : ℕ) (l : List ℕ) → is_hex l ≡ true → Formed t first (bytes_of l) → has_room t c (get_or (bytes_of l) 0 0) ≡ true → line_fault t first c l ≡ 0
unfolding line_fault
no_fault t first c l h f r = rw (h, f.place, eq-eqb _ _ f.long, f.limits, r)

lines_accepted : (t : Text) (m c : ℕ) (ls : List (List ℕ)) → ((i : ℕ) → i < length ls → is_hex (get_or ls i []) ≡ true) → ((i : ℕ) → i < length ls → Formed t (eqb (m + i) 0) (get_or (map bytes_of ls) i [])) → count_from t c (map bytes_of ls) ≤ counted_most t → first_lines t m c ls [] ≡ Accepted (m + length ls) (count_from t c (map bytes_of ls))
unfolding first_lines
lines_accepted t m c [] h f k = rw (add-zero m)
lines_accepted t m c (l ∷ ls) h f k =
    let d = counted t c (get_or (bytes_of l) 0 0) in
    let g : d ≤ count_from t d (map bytes_of ls) = count_grows t d (map bytes_of ls) in
    let e : Formed t (eqb m 0) (bytes_of l) = rw (add-zero m) at (f zero (omega arith)) in
    let z : line_fault t (eqb m 0) c l ≡ 0 = no_fault t (eqb m 0) c l (h zero (omega arith)) e (room t c (get_or (bytes_of l) 0 0) (omega arith)) in
    let s : suc m + length ls ≡ m + suc (length ls) = omega arith in
    rw (z, ← s) (lines_accepted t (suc m) d ls (λ i q. h (suc i) (omega arith)) (λ i q. later i (f (suc i) (omega arith))) k)
  where
    later : (i : ℕ) → Formed t (eqb (m + suc i) 0) (get_or (map bytes_of ls) i []) → Formed t (eqb (suc m + i) 0) (get_or (map bytes_of ls) i [])
    later i q = let s : m + suc i ≡ suc m + i = omega arith in rw s at q

-- ---- the second reading

find_none : (key : List ℕ) (es : List (List ℕ)) → ((j : ℕ) → j < length es → begins key (get_or es j []) ≡ false) → find key es ≡ []
unfolding find
find_none key [] h = refl
find_none key (f ∷ es) h = rw (h zero (omega arith)) (find_none key es (λ j q. h (suc j) (omega arith)))

key_fresh : (es : List (List ℕ)) (g : List ℕ) → (((kind_of g).key ≡ 0 → ⊥) → (j : ℕ) → j < length es → begins (key_of g) (get_or es j []) ≡ false) → key_given es g ≡ false
unfolding key_given
key_fresh es g h = go (eqb (kind_of g).key 0) refl
  where
    go : (a : Bool) → eqb (kind_of g).key 0 ≡ a → pick a false (is_found (find (key_of g) es)) ≡ false
    go true q = refl
    go false q = rw (find_none (key_of g) es (h (eqb-false (kind_of g).key 0 q)))

-- with a table to take samples from, test 13 passes
any_passes : (a b : Bool) → b ≡ true → pick {A = ℕ} a (pick b 0 13) 0 ≡ 0
any_passes true b t = rw t
any_passes false b t = refl

second_accepted : (n : Counts) → n.table ≡ true → (es : List (List ℕ)) (k : ℕ) (fs : List (List ℕ)) (a : Reading) → ((i : ℕ) → i < length fs → Named n (get_or fs i [])) → ((i : ℕ) → i < length fs → key_given (es ++ take i fs) (get_or fs i []) ≡ false) → ((i : ℕ) → i < length fs → chained (es ++ take i fs) (get_or fs i []) ≡ false) → second_from n es k fs a ≡ a
unfolding second_from
second_accepted n t es k [] a h f u = refl
second_accepted n t es k (g ∷ fs) a h f u =
    let b : key_given es g ≡ false = rw (append-nil es) at (f zero (omega arith)) in
    let d : chained es g ≡ false = subst (λ (y : List (List ℕ)). chained y g ≡ false) (append-nil es) (u zero (omega arith)) in
    rw ((h zero (omega arith)).range, (h zero (omega arith)).reals, b, d, any_passes (takes_table g) n.table t)
    (second_accepted n t (es ++ g ∷ []) (suc k) fs a (λ i q. h (suc i) (omega arith)) (λ i q. rw (append_assoc es (g ∷ []) (take i fs)) (f (suc i) (omega arith)))
    (λ i q. subst (λ (y : List (List ℕ)). chained y (get_or fs i []) ≡ false) (sym (append_assoc es (g ∷ []) (take i fs))) (u (suc i) (omega arith))))

-- ---- the whole

steps_accepted : (t : Text) (x : List ℕ) (n c : ℕ) → (t ≡ Plan → steps_say x + 1 ≡ n) → steps_right t x (Accepted n c) ≡ Accepted n c
steps_accepted Query x n c h = refl
steps_accepted Table x n c h = refl
steps_accepted Plan x n c h = rw (eq-eqb (steps_say x + 1) n (h refl))

first_is : (t : Text) (x : List ℕ) (n c : ℕ) → Whole t x n c → first_from t 0 0 x ≡ Accepted n c
unfolding frames_of
first_is t x n c w =
    let e : length (split x).ended ≡ n = sym (w.lines ∙ frames_length x) in
    let k : count_from t 0 (map bytes_of (split x).ended) ≡ c = sym w.counts in
    let a = lines_accepted t 0 0 (split x).ended (λ i q. w.hex i (omega arith)) (λ i q. rw (zero-add i) (w.formed i (omega arith))) (rw k w.few) in
    rw w.ended (a ∙ rw (zero-add (length (split x).ended), e, k))

short : (t : Text) (x : List ℕ) (n c : ℕ) → Whole t x n c → first_reading t x ≡ Accepted n c
unfolding first_reading frames_of split
short Query [] n c w = let z = w.some (λ q. let y : ◌≡◌ {A = ℕ} 0 1 = cc in omega arith) in absurd (omega (arith, w.lines))
short Plan [] n c w = let z = w.some (λ q. let y : ◌≡◌ {A = ℕ} 0 1 = cc in omega arith) in absurd (omega (arith, w.lines))
short Table [] n c w = rw (w.lines, w.counts)
short t (b ∷ x) n c w =
    rw (le-ltb text_most (length (b ∷ x)) w.size, ne_eqb (length (b ∷ x)) 0 (λ z. omega arith), first_is t (b ∷ x) n c w)
    (steps_accepted t (b ∷ x) n c w.steps)

pub whole_accepted : (t : Text) (x : List ℕ) (n c : ℕ) → Whole t x n c → reading t x ≡ Accepted n c
unfolding reading
whole_accepted t x n c w =
    rw (short t x n c w)
    (second_accepted (counts_of t x c) (counts_table t) [] 0 (frames_of x) (Accepted n c) (λ i q. w.named i (omega (arith, w.lines))) fresh (λ i q. w.unchained i (omega (arith, w.lines))))
  where
    counts_table : (t : Text) → (counts_of t x c).table ≡ true
    counts_table Query = refl
    counts_table Plan = refl
    counts_table Table = refl

    fresh : (i : ℕ) → i < length (frames_of x) → key_given (take i (frames_of x)) (get_or (frames_of x) i []) ≡ false
    fresh i q = key_fresh (take i (frames_of x)) (get_or (frames_of x) i []) before
      where
        before : ((kind_of (get_or (frames_of x) i [])).key ≡ 0 → ⊥) → (j : ℕ) → j < length (take i (frames_of x)) → begins (key_of (get_or (frames_of x) i [])) (get_or (take i (frames_of x)) j []) ≡ false
        before k j r =
            let m : j < i = rw (length-take-le i (frames_of x) (omega arith)) at r in
            rw (get_or-take i (frames_of x) j [] m) (w.fresh j i m (omega (arith, w.lines)) k)
