-- What holds of an accepted text: its size and counts are within the limits, each of its frames passes the tests 2 to 6, no two of
-- its frames have the same key, and no leader has a frame 34. Assumes nothing.
use Prim.Native.Nat.{ℕ, zero, suc, ◌+◌, ◌≤◌, ◌<◌}
use mathlib.Core.Path.{◌≡◌, refl, sym, ◌∙◌, ap, subst}
use mathlib.Core.Bool.{Bool, true, false}
use mathlib.Core.List.{List, [], ◌∷◌, ◌++◌, map, append_assoc, append-nil}
use native.Mathlib.Omega.{arith}
use native.Mathlib.Nat.{zero-add}
use lib.ListN.{length, get_or, take, length-map}
use lib.Seq.{get_or-take, length-take-le}
use lib.Dec.{T, leb, eqb}
use lib.Pow.{are_bytes}
use borrow.Author.Tests.{leb-true, eqb-true, eq-eqb, ne_eqb}
use Rattle.reading.specs.Choose.{pick}
use Rattle.reading.proofs.ChooseLaws.{both_hold}
use Rattle.reading.specs.Digits.{bytes_of}
use Rattle.reading.proofs.Bytes.{digits_bytes}
use Rattle.reading.specs.Lines.{split, is_hex, end_of}
use Rattle.reading.proofs.Cuts.{cut, end_is, all_rest}
use Rattle.reading.specs.Limits.{text_most, variables_most, globals_most, literals_most, atoms_most, rows_most}
use Rattle.reading.specs.Fields.{field_passes, no_counts}
use Rattle.reading.specs.Kinds.{kind_at, query, plan}
use Rattle.reading.specs.Frames.{kind_of, pass_all, frame_passes}
use Rattle.reading.specs.Faults.{is_header, belongs, counted_most}
use Rattle.reading.specs.First.{frames_of, first_line, steps_say, first_reading}
use Rattle.reading.specs.Counts.{Counts}
use Rattle.reading.specs.Test.TheVariants.{Limits, Range, Reals}
use Rattle.reading.specs.Text.{Text}
use Rattle.reading.specs.Text.TheVariants.{Query, Plan, Table}
use Rattle.reading.specs.Reading.{Reading}
use Rattle.reading.specs.Reading.{Accepted, Refused}
use Rattle.reading.specs.Keys.{begins, find, is_found, key_of, key_given}
pub use Rattle.reading.proofs.Formed.{Formed, count_from}
use Rattle.reading.proofs.ReadingLaws.{or_passes}
use Rattle.reading.proofs.Formed.{passes, Passed, lines_pass, lines_hex, First, first_accepted}
use Rattle.reading.specs.Leading.{chained}
use Rattle.reading.specs.Second.{counts_of, second_fault, second_from, second, reading}

-- ---- what is said of an accepted text

-- tests 5 and 6 of a frame, by the counts n
pub record Named (n : Counts) (f : List ℕ) : Type 0 where
  pub range : frame_passes (field_passes Range n) f ≡ true
  pub reals : frame_passes (field_passes Reals n) f ≡ true

-- the text x is accepted with n lines, c of them counted
pub record Whole (t : Text) (x : List ℕ) (n c : ℕ) : Type 0 where
  pub size : length x ≤ text_most
  pub ended : (split x).rest ≡ []
  pub lines : n ≡ length (frames_of x)
  pub counts : c ≡ count_from t 0 (frames_of x)
  pub few : c ≤ counted_most t
  pub some : (t ≡ Table → ⊥) → 1 ≤ n
  pub steps : t ≡ Plan → steps_say x + 1 ≡ n
  pub hex : (i : ℕ) → i < n → is_hex (get_or (split x).ended i []) ≡ true
  pub formed : (i : ℕ) → i < n → Formed t (eqb i 0) (get_or (frames_of x) i [])
  pub named : (i : ℕ) → i < n → Named (counts_of t x c) (get_or (frames_of x) i [])
  pub fresh : (i j : ℕ) → i < j → j < n → ((kind_of (get_or (frames_of x) j [])).key ≡ 0 → ⊥) → begins (key_of (get_or (frames_of x) j [])) (get_or (frames_of x) i []) ≡ false
  pub apart : (i j : ℕ) → i < j → j < n → ((kind_of (get_or (frames_of x) j [])).key ≡ 0 → ⊥) → key_of (get_or (frames_of x) i []) ≡ key_of (get_or (frames_of x) j []) → ⊥
  pub unchained : (i : ℕ) → i < n → chained (take i (frames_of x)) (get_or (frames_of x) i []) ≡ false

-- ---- the second reading

spares : (b : Bool) (k m : ℕ) → pick b (suc m) k ≡ 0 → (b ≡ false) × (k ≡ 0)
spares true k m p = absurd (omega arith)
spares false k m p = (refl, p)

record Tested (n : Counts) (es fs : List (List ℕ)) (a : Reading) (m c : ℕ) : Type 0 where
  pub answer : a ≡ Accepted m c
  pub named : (i : ℕ) → i < length fs → Named n (get_or fs i [])
  pub fresh : (i : ℕ) → i < length fs → key_given (es ++ take i fs) (get_or fs i []) ≡ false
  pub unchained : (i : ℕ) → i < length fs → chained (es ++ take i fs) (get_or fs i []) ≡ false

record Fresh (n : Counts) (es : List (List ℕ)) (f : List ℕ) : Type 0 where
  pub named : Named n f
  pub fresh : key_given es f ≡ false
  pub unchained : chained es f ≡ false

no_second : (n : Counts) (es : List (List ℕ)) (f : List ℕ) → second_fault n es f ≡ 0 → Fresh n es f
unfolding second_fault
no_second n es f p =
    let a = passes (frame_passes (field_passes Range n) f) _ 4 p in
    let b = passes (frame_passes (field_passes Reals n) f) _ 5 a.1 in
    let d = spares (key_given es f) _ 6 b.1 in
    let e = spares (chained es f) _ 13 d.1 in
    record { named = record { range = a.0; reals = b.0 }; fresh = d.0; unchained = e.0 }

tested_more : (n : Counts) (es : List (List ℕ)) (f : List ℕ) (fs : List (List ℕ)) (a : Reading) (m c : ℕ) → Fresh n es f → Tested n (es ++ f ∷ []) fs a m c → Tested n es (f ∷ fs) a m c
tested_more n es f fs a m c g p = record { answer = p.answer; named = each; fresh = new; unchained = free }
  where
    each : (i : ℕ) → i < suc (length fs) → Named n (get_or (f ∷ fs) i [])
    each zero h = g.named
    each (suc i) h = p.named i (omega arith)

    new : (i : ℕ) → i < suc (length fs) → key_given (es ++ take i (f ∷ fs)) (get_or (f ∷ fs) i []) ≡ false
    new zero h = rw (append-nil es) g.fresh
    new (suc i) h = rw (append_assoc es (f ∷ []) (take i fs)) at (p.fresh i (omega arith))

    free : (i : ℕ) → i < suc (length fs) → chained (es ++ take i (f ∷ fs)) (get_or (f ∷ fs) i []) ≡ false
    free zero h = rw (append-nil es) g.unchained
    free (suc i) h = let z : (es ++ f ∷ []) ++ take i fs ≡ es ++ f ∷ take i fs = append_assoc es (f ∷ []) (take i fs) in subst (λ (y : List (List ℕ)). chained y (get_or fs i []) ≡ false) z (p.unchained i (omega arith))

second_passes : (n : Counts) (es : List (List ℕ)) (k : ℕ) (fs : List (List ℕ)) (a : Reading) (m c : ℕ) → second_from n es k fs a ≡ Accepted m c → Tested n es fs a m c
unfolding second_from
second_passes n es k [] a m c p = record { answer = p; named = λ i h. absurd (omega arith); fresh = λ i h. absurd (omega arith); unchained = λ i h. absurd (omega arith) }
second_passes n es k (f ∷ fs) a m c p =
    let e = or_passes (second_fault n es f) k _ m c p in
    tested_more n es f fs a m c (no_second n es f e.0) (second_passes n (es ++ f ∷ []) (suc k) fs a m c e.1)

-- ---- keys

pub begins_self : (k : ℕ) (f : List ℕ) → begins (take k f) f ≡ true
unfolding begins
begins_self zero f = refl
begins_self (suc k) [] = refl
begins_self (suc k) (b ∷ f) = rw (eq-eqb b b refl) (begins_self k f)

-- a key of some bytes that no frame was found by begins none of them
pub not_found : (b : ℕ) (key : List ℕ) (es : List (List ℕ)) → is_found (find (b ∷ key) es) ≡ false → (i : ℕ) → i < length es → begins (b ∷ key) (get_or es i []) ≡ false
unfolding find begins
not_found b key [] p i h = absurd (omega arith)
not_found b key (f ∷ es) p i h = go (begins (b ∷ key) f) refl (λ q. not_found b key es q) p i h
  where
    found : (g : List ℕ) → begins (b ∷ key) g ≡ true → is_found g ≡ false → ⊥
    found [] q r = let z : ◌≡◌ {A = ℕ} 0 1 = cc in omega arith
    found (d ∷ g) q r = let z : ◌≡◌ {A = ℕ} 0 1 = cc in omega arith

    go : (a : Bool) → begins (b ∷ key) f ≡ a → (is_found (find (b ∷ key) es) ≡ false → (i : ℕ) → i < length es → begins (b ∷ key) (get_or es i []) ≡ false) → is_found (pick a f (find (b ∷ key) es)) ≡ false → (i : ℕ) → i < suc (length es) → begins (b ∷ key) (get_or (f ∷ es) i []) ≡ false
    go true q more r i h = absurd (found f q r)
    go false q more r zero h = q
    go false q more r (suc i) h = more r i (omega arith)

-- so no earlier frame begins with the key of a fresh one
fresh_begins : (es : List (List ℕ)) (g : List ℕ) (i : ℕ) → i < length es → key_given es g ≡ false → ((kind_of g).key ≡ 0 → ⊥) → 1 ≤ length g → begins (key_of g) (get_or es i []) ≡ false
unfolding key_given
fresh_begins es g i h p k l = go (key_of g) refl (rw (ne_eqb (kind_of g).key 0 k) at p)
  where
    some : (m : ℕ) (y : List ℕ) → (m ≡ 0 → ⊥) → 1 ≤ length y → take m y ≡ [] → ⊥
    some zero y a b d = a refl
    some (suc m) [] a b d = omega arith
    some (suc m) (z ∷ y) a b d = let w : ◌≡◌ {A = ℕ} 0 1 = cc in omega arith

    go : (y : List ℕ) → key_of g ≡ y → is_found (find y es) ≡ false → begins y (get_or es i []) ≡ false
    go [] r u = absurd (some (kind_of g).key g k l r)
    go (b ∷ y) r u = not_found b y es u i h

-- nor has it
not_same : (f g : List ℕ) → begins (key_of g) f ≡ false → key_of f ≡ key_of g → ⊥
not_same f g p q =
    let v : begins (key_of g) f ≡ true = rw (← q) (begins_self (kind_of f).key f) in
    let z : ◌≡◌ {A = ℕ} 0 1 = cc in
    omega arith

-- ---- the whole

lines_some : (x : List ℕ) → (split x).rest ≡ [] → 1 ≤ length x → 1 ≤ length (frames_of x)
unfolding frames_of
lines_some x p h = go (split x).ended refl
  where
    go : (ls : List (List ℕ)) → (split x).ended ≡ ls → 1 ≤ length (map bytes_of (split x).ended)
    go [] q = let z : length x ≡ 0 = ap length (sym (all_rest x q) ∙ p) in absurd (omega arith)
    go (l ∷ ls) q = rw q (omega arith)

pub frames_length : (x : List ℕ) → length (frames_of x) ≡ length (split x).ended
unfolding frames_of
frames_length x = length-map (split x).ended bytes_of

both : (t : Text) (x : List ℕ) (n c : ℕ) → First t x n c → Passed t 0 0 (frames_of x) (split x).rest n c → Tested (counts_of t x c) [] (frames_of x) (Accepted n c) n c → Whole t x n c
both t x n c f p s =
    let e : n ≡ length (frames_of x) = p.lines ∙ zero-add (length (frames_of x)) in
    record {
      size = f.size;
      ended = p.ended;
      lines = e;
      counts = p.counts;
      few = p.few (omega arith);
      some = λ h. let z = lines_some x p.ended (f.some h) in omega arith;
      steps = f.steps;
      hex = λ i h. lines_hex t 0 0 (split x).ended (split x).rest n c f.lines i (omega (arith, frames_length x));
      formed = λ i h. formed i (omega arith);
      named = λ i h. s.named i (omega arith);
      fresh = new;
      apart = λ i j h k m q. not_same (get_or (frames_of x) i []) (get_or (frames_of x) j []) (new i j h k m) q;
      unchained = λ i h. s.unchained i (omega arith);
    }
  where
    formed : (i : ℕ) → i < length (frames_of x) → Formed t (eqb i 0) (get_or (frames_of x) i [])
    formed i h = rw (zero-add i) at (p.formed i h)

    long : {b : Bool} {g : List ℕ} → Formed t b g → 1 ≤ length g
    long f = omega (arith, f.long)

    new : (i j : ℕ) → i < j → j < n → ((kind_of (get_or (frames_of x) j [])).key ≡ 0 → ⊥) → begins (key_of (get_or (frames_of x) j [])) (get_or (frames_of x) i []) ≡ false
    new i j h k m =
        let l : j < length (frames_of x) = omega (arith, p.lines) in
        let w : i < length (take j (frames_of x)) = rw (length-take-le j (frames_of x) (omega arith)) h in
        rw (get_or-take j (frames_of x) i [] h) at (fresh_begins (take j (frames_of x)) (get_or (frames_of x) j []) i w (s.fresh j l) m (long (formed j l)))

pub accepted : (t : Text) (x : List ℕ) (n c : ℕ) → reading t x ≡ Accepted n c → Whole t x n c
unfolding reading frames_of
accepted t x n c p = go (first_reading t x) refl p
  where
    made : (m e : ℕ) → first_reading t x ≡ Accepted m e → Tested (counts_of t x e) [] (frames_of x) (Accepted m e) n c → Whole t x n c
    made m e q s =
        let y : m ≡ n = cc s.answer in
        let z : e ≡ c = cc s.answer in
        let r : first_reading t x ≡ Accepted n c = q ∙ s.answer in
        let f = first_accepted t x n c r in
        let g : Tested (counts_of t x c) [] (frames_of x) (Accepted n c) n c = rw (y, z) at s in
        both t x n c f (lines_pass t 0 0 (split x).ended (split x).rest n c f.lines) g

    go : (a : Reading) → first_reading t x ≡ a → second true t x a ≡ Accepted n c → Whole t x n c
    go (Accepted m e) q r = made m e q (second_passes (counts_of t x e) [] 0 (frames_of x) (Accepted m e) n c r)
    go (Refused k l) q r = let z : ◌≡◌ {A = ℕ} 0 1 = cc in absurd (omega arith)

-- ---- the header of an accepted query or plan

-- the first frame is that of the first line
first_frame : (x f : List ℕ) (fs : List (List ℕ)) → frames_of x ≡ f ∷ fs → f ≡ bytes_of (first_line x)
unfolding frames_of
first_frame x f fs p = go (split x).ended refl p
  where
    go : (ls : List (List ℕ)) → (split x).ended ≡ ls → map bytes_of ls ≡ f ∷ fs → f ≡ bytes_of (first_line x)
    go [] q r = let z : ◌≡◌ {A = ℕ} 0 1 = cc in absurd (omega arith)
    go (l ∷ ls) q r =
        let a : bytes_of l ≡ f = cc in
        let b : end_of 0 x ≡ length l = end_is x 0 l ls q ∙ zero-add (length l) in
        rw (b, ← (cut x l ls q).line) (sym a)

-- what a header gives, as its kind's fields say
pub record Header (f : List ℕ) : Type 0 where
  pub variables : get_or f 1 0 ≤ variables_most
  pub globals : get_or f 2 0 ≤ globals_most
  pub literals : get_or f 3 0 ≤ literals_most

three : (f : List ℕ) (r s : Bool) → pick (pick (leb (get_or f 1 0) variables_most) (pick (leb (get_or f 2 0) globals_most) (pick (leb (get_or f 3 0) literals_most) r false) false) false) s false ≡ true → Header f
three f r s p =
    let a = both_hold _ s p in
    let b = both_hold (leb (get_or f 1 0) variables_most) _ a.0 in
    let d = both_hold (leb (get_or f 2 0) globals_most) _ b.1 in
    let e = both_hold (leb (get_or f 3 0) literals_most) r d.1 in
    record { variables = leb-true _ _ b.0; globals = leb-true _ _ d.0; literals = leb-true _ _ e.0 }

pub header_fits : (f : List ℕ) → (is_header (get_or f 0 0) ≡ true) → frame_passes (field_passes Limits no_counts) f ≡ true → Header f
unfolding kind_at pass_all field_passes
header_fits f p q = go (get_or f 0 0) refl (eqb (get_or f 0 0) 0) refl p
  where
    go : (b : ℕ) → get_or f 0 0 ≡ b → (a : Bool) → eqb b 0 ≡ a → pick a true (eqb b 0x3f) ≡ true → Header f
    go b e true r s = let z : get_or f 0 0 ≡ 0 = e ∙ eqb-true b 0 r in three f _ _ (rw z at q)
    go b e false r s = let z : get_or f 0 0 ≡ 0x3f = e ∙ eqb-true b 0x3f s in three f _ _ (rw z at q)

header_first_lem : (t : Text) (b : ℕ) → (t ≡ Table → ⊥) → belongs t true b ≡ true → is_header b ≡ true
header_first_lem Query b h p = (both_hold (eqb (kind_at b).text query) (is_header b) p).1
header_first_lem Plan b h p = (both_hold (eqb (kind_at b).text plan) (is_header b) p).1
header_first_lem Table b h p = absurd (h refl)

-- an accepted query or plan has a header, and what that gives is within the limits
pub record Headed (t : Text) (x : List ℕ) (n c : ℕ) : Type 0 where
  pub some : 1 ≤ n
  pub header : Header (bytes_of (first_line x))
  pub first : get_or (frames_of x) 0 [] ≡ bytes_of (first_line x)

pub headed : (t : Text) (x : List ℕ) (n c : ℕ) → (t ≡ Table → ⊥) → reading t x ≡ Accepted n c → Headed t x n c
headed t x n c h p = go (frames_of x) refl (accepted t x n c p)
  where
    go : (fs : List (List ℕ)) → frames_of x ≡ fs → Whole t x n c → Headed t x n c
    go [] q w = let z = w.some h in absurd (omega (arith, w.lines, ap length q))
    go (f ∷ fs) q w =
        let e : n ≡ suc (length fs) = w.lines ∙ ap length q in
        let g : get_or (frames_of x) 0 [] ≡ f = ap (λ (y : List (List ℕ)). get_or y 0 []) q in
        let b : f ≡ bytes_of (first_line x) = first_frame x f fs q in
        let m : Formed t true f = rw g at (w.formed 0 (omega arith)) in
        record { some = omega arith; header = rw (← b) (header_fits f (header_first_lem t (get_or f 0 0) h m.place) m.limits); first = g ∙ b }

-- "Most: text 65,536 bytes, variables 64, globals 16, literals 16, atoms 64 .. rows 1,024": the counts of an accepted query, and of a table
pub record QueryWithin (x : List ℕ) (n c : ℕ) : Type 0 where
  pub text : length x ≤ text_most
  pub lines : 1 ≤ n
  pub header : Header (bytes_of (first_line x))
  pub atoms : c ≤ atoms_most

pub query_within : (x : List ℕ) (n c : ℕ) → reading Query x ≡ Accepted n c → QueryWithin x n c
query_within x n c p =
    let w = accepted Query x n c p in
    let h = headed Query x n c (λ e. let z : ◌≡◌ {A = ℕ} 0 1 = cc in absurd (omega arith)) p in
    record { text = w.size; lines = h.some; header = h.header; atoms = w.few }

pub table_rows : (x : List ℕ) (n c : ℕ) → reading Table x ≡ Accepted n c → c ≤ rows_most
table_rows x n c p = (accepted Table x n c p).few

-- ---- bytes
-- a frame is of bytes
lines_bytes : (ls : List (List ℕ)) (i : ℕ) → T (are_bytes (get_or (map bytes_of ls) i []))
lines_bytes [] i = tt
lines_bytes (l ∷ ls) zero = digits_bytes l
lines_bytes (l ∷ ls) (suc i) = lines_bytes ls i

pub frame_bytes : (x : List ℕ) (i : ℕ) → T (are_bytes (get_or (frames_of x) i []))
unfolding frames_of
frame_bytes x i = lines_bytes (split x).ended i
