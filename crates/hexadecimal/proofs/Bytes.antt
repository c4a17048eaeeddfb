-- The bytes of a line of digits by their places; what is written is read back. Assumes nothing.
use Prim.Native.Nat.{ℕ, zero, suc, ◌+◌, ◌*◌, ◌/◌, ◌%◌, ◌<◌, ◌≤◌}
use mathlib.Core.Path.{◌≡◌, refl, sym, ◌∙◌}
use mathlib.Core.List.{List, [], ◌∷◌}
use native.Mathlib.Omega.{arith}
use lib.ListN.{length, get_or, take, get_or-eq_default}
use lib.Seq.{take-nil}
use lib.Dec.{T, ltb, ltb→lt}
use lib.Pow.{are_bytes}
use borrow.Author.Tests.{lt-ltb, ltb-true, ltb-false}
use Rattle.base.proofs.TableLaws.{both_left, both_right}
use Rattle.base.proofs.ChooseLaws.{pick_elim}
use Rattle.hexadecimal.specs.Digits.{digit_value, bytes_of, hex_digit, digits_of}
use Rattle.hexadecimal.proofs.Laws.{value_digit, value_lower}

pub bytes_length : (l : List ℕ) → length (bytes_of l) ≡ length l / 2
bytes_length [] = refl
bytes_length (a ∷ []) = refl
bytes_length (a ∷ b ∷ l) = let h = bytes_length l in omega arith

pub bytes_at : (l : List ℕ) (i : ℕ) → 2 * i + 1 < length l → get_or (bytes_of l) i 0 ≡ digit_value (get_or l (2 * i) 0) % 16 * 16 + digit_value (get_or l (2 * i + 1) 0) % 16
bytes_at [] i h = absurd (omega arith)
bytes_at (a ∷ []) i h = absurd (omega arith)
bytes_at (a ∷ b ∷ l) zero h = refl
bytes_at (a ∷ b ∷ l) (suc i) h =
    let e : 2 * suc i ≡ suc (suc (2 * i)) = omega arith in
    let f : 2 * suc i + 1 ≡ suc (suc (2 * i + 1)) = omega arith in
    let g : 2 * i + 1 < length l = omega arith in
    rw (f, e) (bytes_at l i g)

-- past the end
pub bytes_past : (l : List ℕ) (i : ℕ) → length l / 2 ≤ i → 0 ≡ get_or (bytes_of l) i 0
bytes_past l i h = sym (get_or-eq_default (bytes_of l) 0 (omega (arith, bytes_length l)))

pub byte_is : (l : List ℕ) (i h k : ℕ) → i < length l / 2 → h ≡ digit_value (get_or l (2 * i) 0) % 16 → k ≡ digit_value (get_or l (2 * i + 1) 0) % 16 → h * 16 + k ≡ get_or (bytes_of l) i 0
byte_is l i h k n p q = let g : 2 * i + 1 < length l = omega arith in rw (bytes_at l i g, p, q)

-- the first bytes are those of the first digits
pub bytes_take : (k : ℕ) (l : List ℕ) → bytes_of (take (2 * k) l) ≡ take k (bytes_of l)
bytes_take zero l = refl
bytes_take (suc k) [] = rw (take-nil (2 * suc k))
bytes_take (suc k) (a ∷ []) = let e : 2 * suc k ≡ suc (suc (2 * k)) = omega arith in rw e
bytes_take (suc k) (a ∷ b ∷ l) =
    let e : 2 * suc k ≡ suc (suc (2 * k)) = omega arith in
    rw (e, bytes_take k l)

-- an entry of a list of bytes is one
pub byte_at : (f : List ℕ) → T (are_bytes f) → (i : ℕ) → get_or f i 0 < 256
byte_at [] t i = omega arith
byte_at (b ∷ f) t zero = ltb→lt b 256 (both_left (ltb b 256) (are_bytes f) t)
byte_at (b ∷ f) t (suc i) = byte_at f (both_right (ltb b 256) (are_bytes f) t) i

-- the bytes of digits are bytes
pub digits_bytes : (l : List ℕ) → T (are_bytes (bytes_of l))
digits_bytes [] = tt
digits_bytes (a ∷ []) = tt
digits_bytes (a ∷ b ∷ l) = rw (lt-ltb (digit_value a % 16 * 16 + digit_value b % 16) 256 (omega arith)) (digits_bytes l)

pub digits_length : (f : List ℕ) → length (digits_of f) ≡ 2 * length f
digits_length [] = refl
digits_length (b ∷ f) = let h = digits_length f in omega arith

-- ---- what is written is read back

-- the digit that is written for a value has that value
pub digit_read : (v : ℕ) → v < 16 → digit_value (hex_digit v) ≡ v
digit_read v h =
    pick_elim (λ (d : ℕ). digit_value d ≡ v) (ltb v 10) (48 + v) (87 + v)
    (λ e. let k = ltb-true v 10 e in sym (value_digit (48 + v) (omega arith) (omega arith)).0 ∙ omega arith)
    (λ e. let k = ltb-false v 10 e in sym (value_lower (87 + v) (omega arith) (omega arith)).0 ∙ omega arith)

-- no digit comes before 0, whatever it is written for
pub digit_above : (v : ℕ) → 48 ≤ hex_digit v
digit_above v = pick_elim (λ (d : ℕ). 48 ≤ d) (ltb v 10) (48 + v) (87 + v) (λ e. omega arith) (λ e. omega arith)

-- a byte from its two digits
pub byte_back : (b : ℕ) → b < 256 → digit_value (hex_digit (b / 16)) % 16 * 16 + digit_value (hex_digit (b % 16)) % 16 ≡ b
byte_back b h = rw (digit_read (b / 16) (omega arith), digit_read (b % 16) (omega arith)) (omega arith)

pub bytes_read : (f : List ℕ) → T (are_bytes f) → bytes_of (digits_of f) ≡ f
bytes_read [] t = refl
bytes_read (b ∷ f) t =
    let h : b < 256 = ltb→lt b 256 (both_left (ltb b 256) (are_bytes f) t) in
    rw (byte_back b h, bytes_read f (both_right (ltb b 256) (are_bytes f) t))
