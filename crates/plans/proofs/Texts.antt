-- The text of frames has their lines, is read back to them, and is as long as their digits and line ends. Proved by induction over the frames.
use Prim.Native.Nat.{ℕ, ◌+◌, ◌/◌, ◌%◌, ◌<◌, ◌≤◌}
use mathlib.Core.Path.{◌≡◌, refl, sym, ◌∙◌, ap, subst}
use mathlib.Core.Bool.{true, false}
use mathlib.Core.List.{List, [], ◌∷◌, ◌++◌, map}
use native.Mathlib.Omega.{arith}
use native.Mathlib.Nat.{zero-add}
use lib.ListN.{length, take, length-append}
use lib.Seq.{take-append_seam}
use lib.Dec.{T, eqb, ltb}
use lib.Pow.{are_bytes}
use borrow.Author.Tests.{ltb-true, ne_eqb, eq-eqb}
use Rattle.records.specs.Digits.{digit_value, bytes_of, hex_digit, digits_of}
use Rattle.records.specs.Lines.{split, with_line, all_digits, is_hex, end_of}
use Rattle.records.proofs.Bytes.{digit_read, digit_above, bytes_read, digits_length}
use Rattle.records.proofs.Cuts.{end_is}
use Rattle.records.specs.First.{frames_of, first_line}
use Rattle.records.proofs.Bools.{first, second}
use Rattle.records.specs.Items.{Each}
use Rattle.plans.specs.PlanText.{text_of, text_length}

-- ---- digits

-- no digit is the byte 0a
digit_inside : (v : ℕ) → eqb (hex_digit v) 10 ≡ false
digit_inside v = ne_eqb (hex_digit v) 10 (λ e. omega (arith, digit_above v))

is_digit : (v : ℕ) → v < 16 → eqb (digit_value (hex_digit v)) 16 ≡ false
is_digit v h = rw (digit_read v h) (ne_eqb v 16 (λ e. omega arith))

digits_all : (f : List ℕ) → are_bytes f ≡ true → all_digits (digits_of f) ≡ true
digits_all [] h = refl
digits_all (b ∷ f) h =
    let k : b < 256 = ltb-true b 256 (first (ltb b 256) (are_bytes f) h) in
    rw (is_digit (b / 16) (omega arith), is_digit (b % 16) (omega arith)) (digits_all f (second (ltb b 256) (are_bytes f) h))

-- the line of a frame is of digits
pub digits_hex : (f : List ℕ) → 0 < length f → are_bytes f ≡ true → is_hex (digits_of f) ≡ true
digits_hex f k h =
    let n = digits_length f in
    rw (ne_eqb (length (digits_of f)) 0 (λ e. omega arith), eq-eqb (length (digits_of f) % 2) 0 (omega arith)) (digits_all f h)

-- ---- lines

split_line : (f t : List ℕ) → split (digits_of f ++ 10 ∷ t) ≡ with_line (digits_of f) (split t)
unfolding split
split_line [] t = refl
split_line (b ∷ f) t = rw (digit_inside (b / 16), digit_inside (b % 16), split_line f t)

pub text_split : (fs : List (List ℕ)) → split (text_of fs) ≡ record { ended = map digits_of fs; rest = [] }
unfolding split text_of
text_split [] = refl
text_split (f ∷ fs) = split_line f (text_of fs) ∙ rw (text_split fs)

-- ---- frames

pub line_read : (f : List ℕ) → are_bytes f ≡ true → bytes_of (digits_of f) ≡ f
line_read f h = bytes_read f (subst T (sym h) tt)

pub text_frames : (fs : List (List ℕ)) → Each (λ f. are_bytes f ≡ true) fs → frames_of (text_of fs) ≡ fs
unfolding frames_of
text_frames fs h = rw (text_split fs) (go fs h)
  where
    go : (fs : List (List ℕ)) → Each (λ f. are_bytes f ≡ true) fs → map bytes_of (map digits_of fs) ≡ fs
    go [] h = refl
    go (f ∷ fs) h = rw (line_read f h.0, go fs h.1)

-- the first line is the first frame's
pub text_first : (f : List ℕ) (fs : List (List ℕ)) → first_line (text_of (f ∷ fs)) ≡ digits_of f
unfolding text_of
text_first f fs =
    let e : end_of 0 (text_of (f ∷ fs)) ≡ 0 + length (digits_of f) = end_is (text_of (f ∷ fs)) 0 (digits_of f) (map digits_of fs) (ap (λ s. s.ended) (text_split (f ∷ fs))) in
    ap (λ (n : ℕ). take n (text_of (f ∷ fs))) (e ∙ zero-add (length (digits_of f))) ∙ take-append_seam (digits_of f) (10 ∷ text_of fs)

-- ---- length

pub text_length_lem : (fs : List (List ℕ)) → length (text_of fs) ≡ text_length fs
unfolding text_of text_length
text_length_lem [] = refl
text_length_lem (f ∷ fs) = let h = text_length_lem fs in omega (arith, length-append (digits_of f) (10 ∷ text_of fs), digits_length f)

-- a line has a byte at least
pub text_least : (fs : List (List ℕ)) → length fs ≤ text_length fs
unfolding text_length
text_least [] = omega arith
text_least (f ∷ fs) = let h = text_least fs in omega arith
