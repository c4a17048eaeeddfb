-- What is put piece by piece is put whole. Proved by induction on the first piece.
use Prim.Native.Nat.{ℕ, suc, ◌+◌, ◌*◌, ◌/◌, ◌%◌, ◌<◌, ◌≤◌}
use mathlib.Core.Path.{◌≡◌, refl, sym, ◌∙◌, ap, subst}
use mathlib.Core.List.{List, [], ◌∷◌, ◌++◌, append_assoc}
use native.Mathlib.Omega.{arith}
use native.Mathlib.Nat.{add-zero}
use native.Mathlib.Numerals.{add-one}
use lib.ListN.{length, get_or, set, take, length-append, length-set}
use lib.Seq.{set_out, length-sets, length-take-le, take-suc, take_all}
use Rattle.std.specs.Int.{w16, w32, to_be_bytes}
use Rattle.hexadecimal.specs.Digits.{hex_digit, digits_of}
use Rattle.hexadecimal.proofs.Bytes.{digits_length}
use Rattle.kinds.specs.Kinds.{kind_at, fixed_length}
use Rattle.frames.specs.Frames.{kind_of, frame_length}
use Rattle.frames.specs.Sheet.{frame_at}
use Rattle.plans.specs.Limits.{line_end}
use Rattle.plans.specs.PlanText.{text_of, text_length}
use Rattle.plans.proofs.Texts.{text_length_lem}
use Rattle.plans.specs.StepFrames.{word_bytes}
use Rattle.output.specs.Written.{fixed_in, written, Puts, PutsBytes, PutsFrames}

written_then : (x o : List ℕ) (at : ℕ) (y : List ℕ) → written (written o at x) (at + length x) y ≡ written o at (x ++ y)
unfolding written
written_then [] o at y = rw (add-zero at)
written_then (b ∷ x) o at y = let e : at + suc (length x) ≡ suc at + length x = omega arith in rw e (written_then x (set o at b) (suc at) y)

pub written_size : (o : List ℕ) (at : ℕ) (x : List ℕ) → length (written o at x) ≡ length o
unfolding written
written_size o at x = length-sets o at x

-- no room: nothing is changed
written_past : (x o : List ℕ) (at : ℕ) → length o ≤ at → written o at x ≡ o
unfolding written
written_past [] o at h = refl
written_past (b ∷ x) o at h = let g : length o ≤ suc at = omega arith in rw (set_out o at b h) (written_past x o (suc at) g)

-- ---- digits

digits_append : (f g : List ℕ) → digits_of (f ++ g) ≡ digits_of f ++ digits_of g
digits_append [] g = refl
digits_append (b ∷ f) g = rw (digits_append f g)

-- the two digits of a byte: both have room, the first alone, none
module _ (o : List ℕ) (at b : ℕ) where
  pub byte_none : length o ≤ at → PutsBytes o at (b ∷ []) o (at + 2)
  byte_none h = record { is = sym (written_past (digits_of (b ∷ [])) o at h); next = refl }

  module _ (d : ℕ) (byte : b < 256) (high : d ≡ hex_digit (b / 16 % 16)) where
    pub byte_first : length o ≤ at + 1 → PutsBytes o at (b ∷ []) (set o at d) (at + 2)
    unfolding written
    byte_first h =
        let m : b / 16 % 16 ≡ b / 16 = omega arith in
        let g : length (set o at (hex_digit (b / 16))) ≤ suc at = omega (arith, length-set o at (hex_digit (b / 16))) in
        record { is = rw (high, m) (sym (set_out (set o at (hex_digit (b / 16))) (suc at) (hex_digit (b % 16)) g)); next = refl }

    pub byte_both : (e : ℕ) → e ≡ hex_digit (b % 16) → PutsBytes o at (b ∷ []) (set (set o at d) (at + 1) e) (at + 2)
    unfolding written
    byte_both e low =
        let m : b / 16 % 16 ≡ b / 16 = omega arith in
        record { is = rw (add-one at, high, low, m); next = refl }

pub bytes_then : (f g : List ℕ) {o p q : List ℕ} {at i r : ℕ} → PutsBytes o at f p i → PutsBytes p i g q r → PutsBytes o at (f ++ g) q r
bytes_then f g {o} {p} {q} {at} {i} {r} u v =
    let n : i ≡ at + length (digits_of f) = omega (arith, u.next, digits_length f) in
    record { is = v.is ∙ rw (n, u.is, digits_append f g) (written_then (digits_of f) o at (digits_of g)); next = omega (arith, u.next, v.next, length-append f g) }

pub bytes_none : (o : List ℕ) (at : ℕ) → PutsBytes o at [] o at
unfolding written
bytes_none o at = record { is = refl; next = omega arith }

-- ---- the bytes x, one after the other

-- i of them are put
pub record Putting (x o₀ : List ℕ) (from : ℕ) (o : List ℕ) (at i : ℕ) : Type 0 where
  pub few : i ≤ length x
  pub place : at ≡ from + 2 * i
  pub size : length o ≡ length o₀
  pub puts : PutsBytes o₀ from (take i x) o at

pub putting_none : (x o : List ℕ) (at : ℕ) → Putting x o at o at 0
putting_none x o at = record { few = omega arith; place = omega arith; size = refl; puts = bytes_none o at }

module _ (x o₀ : List ℕ) (from : ℕ) (o : List ℕ) (at i : ℕ) (m : Putting x o₀ from o at i) where
  pub putting_again : (q : List ℕ) (r : ℕ) → i < length x → PutsBytes o at (get_or x i 0 ∷ []) q r → Putting x o₀ from q r (i + 1)
  putting_again q r h u = record {
    few = omega arith;
    place = omega (arith, m.place, u.next);
    size = ap length u.is ∙ written_size o at (digits_of (get_or x i 0 ∷ [])) ∙ m.size;
    puts = subst (λ (y : List ℕ). PutsBytes o₀ from y q r) (sym more) (bytes_then (take i x) (get_or x i 0 ∷ []) m.puts u);
  }
    where
      more : take (i + 1) x ≡ take i x ++ get_or x i 0 ∷ []
      more = rw (add-one i, take-suc x i 0 h)

  pub storing_again : (d e : ℕ) → i < length x → get_or x i 0 < 256 → d ≡ hex_digit (get_or x i 0 / 16 % 16) → e ≡ hex_digit (get_or x i 0 % 16) → Putting x o₀ from (set (set o at d) (at + 1) e) (at + 2) (i + 1)
  storing_again d e h byte high low = putting_again (set (set o at d) (at + 1) e) (at + 2) h (byte_both o at (get_or x i 0) d byte high e low)

  module _ (h : length x ≤ i) where
    whole : take i x ≡ x
    whole = take_all i x h

    pub putting_all : PutsBytes o₀ from x o at
    putting_all = rw whole at m.puts

    pub stored_all : PutsBytes o₀ from x o (from + 2 * length x)
    stored_all = let e : from + 2 * length x ≡ at = omega (arith, m.few, m.place) in rw e putting_all

pub none_put : (x : List ℕ) (n : ℕ) (o : List ℕ) (at : ℕ) → n ≤ length x → length o ≤ at → PutsBytes o at (take n x) o (at + 2 * n)
none_put x n o at l h = record { is = sym (written_past (digits_of (take n x)) o at h); next = omega (arith, length-take-le n x l) }

-- the bytes of a number, the highest first
pub short_put : (o q x : List ℕ) (at r n : ℕ) → n < 0x1_0000 → x ≡ to_be_bytes w16 n → PutsBytes o at (take 2 x) q r → PutsBytes o at (n / 0x100 ∷ n % 0x100 ∷ []) q r
short_put o q x at r n l e u = let m : n / 0x100 ≡ n / 0x100 % 0x100 = omega arith in rw m (rw e at u)

pub word_put : (o q x : List ℕ) (at r n : ℕ) → n < 0x1_0000_0000 → x ≡ to_be_bytes w32 n → PutsBytes o at (take 4 x) q r → PutsBytes o at (word_bytes n) q r
word_put o q x at r n l e u = let m : n / 0x100_0000 ≡ n / 0x100_0000 % 0x100 = omega arith in rw m (rw e at u)

-- ---- lines

pub end_in : (o : List ℕ) (at : ℕ) → Puts o at (line_end ∷ []) (set o at 10) (at + 1)
unfolding written
end_in o at = record { is = refl; next = refl }

pub end_past : (o : List ℕ) (at : ℕ) → length o ≤ at → Puts o at (line_end ∷ []) o (at + 1)
end_past o at h = record { is = sym (written_past (line_end ∷ []) o at h); next = refl }

pub line_put : (f : List ℕ) {o p q : List ℕ} {at i r : ℕ} → PutsBytes o at f p i → Puts p i (line_end ∷ []) q r → PutsFrames o at (f ∷ []) q r
unfolding text_of text_length
line_put f {o} {p} {q} {at} {i} {r} u v =
    let n : i ≡ at + length (digits_of f) = omega (arith, u.next, digits_length f) in
    record { is = v.is ∙ rw (n, u.is) (written_then (digits_of f) o at (line_end ∷ [])); next = omega (arith, u.next, v.next) }

module _ (x : List ℕ) (b n : ℕ) (is : b ≡ get_or x 0 0) (e : n ≡ fixed_length (kind_at b)) where
  many : n ≡ fixed_length (kind_of x)
  many = rw (e, is)

  pub fixed_many : fixed_length (kind_of x) ≤ length x → n ≤ length x
  fixed_many h = omega (arith, many)

  module _ (o p : List ℕ) (at i : ℕ) (u : PutsBytes o at (take n x) p i) where
    pub fixed_near : fixed_length (kind_of x) ≤ length x → at < 0x5000_0000 → n < 16 → i < 0x8000_0000
    fixed_near h l m = omega (arith, u.next, length-take-le n x (fixed_many h))

    pub fixed_put : (q : List ℕ) (r : ℕ) → Puts p i (line_end ∷ []) q r → PutsFrames o at (fixed_in x ∷ []) q r
    fixed_put q r v = line_put (fixed_in x) (subst (λ (m : ℕ). PutsBytes o at (take m x) p i) many u) v

module _ (x : List ℕ) (n : ℕ) (e : n ≡ frame_length x) (o p : List ℕ) (at i : ℕ) (u : PutsBytes o at (take n x) p i) where
  pub frame_near : frame_length x ≤ length x → at < 0x5000_0000 → n < 0x1_0000 → i < 0x8000_0000
  frame_near h l m = omega (arith, u.next, length-take-le n x (omega arith))

  pub frame_put : (q : List ℕ) (r : ℕ) → Puts p i (line_end ∷ []) q r → PutsFrames o at (frame_at x 0 ∷ []) q r
  frame_put q r v = line_put (frame_at x 0) (subst (λ (m : ℕ). PutsBytes o at (take m x) p i) e u) v

-- ---- lines in turn

text_append : (fs gs : List (List ℕ)) → text_of (fs ++ gs) ≡ text_of fs ++ text_of gs
unfolding text_of
text_append [] gs = refl
text_append (f ∷ fs) gs = rw (text_append fs gs) (sym (append_assoc (digits_of f) (line_end ∷ text_of fs) (text_of gs)))

length_both : (fs gs : List (List ℕ)) → text_length (fs ++ gs) ≡ text_length fs + text_length gs
unfolding text_length
length_both [] gs = omega arith
length_both (f ∷ fs) gs = let h = length_both fs gs in omega arith

pub frames_none : (o : List ℕ) (at : ℕ) → PutsFrames o at [] o at
unfolding written text_of text_length
frames_none o at = record { is = refl; next = omega arith }

pub frames_then : (fs gs : List (List ℕ)) {o p q : List ℕ} {at i r : ℕ} → PutsFrames o at fs p i → PutsFrames p i gs q r → PutsFrames o at (fs ++ gs) q r
frames_then fs gs {o} {p} {q} {at} {i} {r} u v =
    let n : i ≡ at + length (text_of fs) = omega (arith, u.next, text_length_lem fs) in
    record { is = v.is ∙ rw (n, u.is, text_append fs gs) (written_then (text_of fs) o at (text_of gs)); next = omega (arith, u.next, v.next, length_both fs gs) }
