-- The bytes of a line of digits, put into a buffer one after the other. Assumes nothing.
use Prim.Native.Nat.{ℕ, ◌+◌, ◌/◌, ◌<◌, ◌≤◌}
use mathlib.Core.Path.{◌≡◌, refl, ◌∙◌}
use mathlib.Core.List.{List}
use native.Mathlib.Numerals.{add-one}
use native.Mathlib.Omega.{arith}
use lib.ListN.{length, get_or, take, set, length-set}
use lib.Seq.{take-suc, take-suc-set}
use Rattle.hexadecimal.specs.Digits.{bytes_of}
use Rattle.hexadecimal.proofs.Bytes.{bytes_length}

-- i bytes of the line's stand at the start of the buffer, which was t₀
pub record Decoded (l t₀ t : List ℕ) (i : ℕ) : Type 0 where
  pub same : length t ≡ length t₀
  pub within : i ≤ length t
  pub is : take i t ≡ take i (bytes_of l)

pub from_start : (l t : List ℕ) → Decoded l t t 0
from_start l t = record { same = refl; within = omega arith; is = refl }

pub decoded_next : (l t₀ t : List ℕ) (i b : ℕ) → Decoded l t₀ t i → i < length t → i < length l / 2 → b ≡ get_or (bytes_of l) i 0 → Decoded l t₀ (set t i b) (i + 1)
decoded_next l t₀ t i b d h k p =
    let n : i < length (bytes_of l) = rw (bytes_length l) (omega arith) in
    record {
      same = length-set t i b ∙ d.same;
      within = rw (length-set t i b) (omega arith);
      is = rw (add-one i, take-suc-set t i b h, take-suc (bytes_of l) i 0 n, d.is, p);
    }

-- one more byte is kept
pub one_more : (n b : ℕ) (l : List ℕ) → n < length l → n + 1 ≤ length (set l n b)
one_more n b l h = rw (length-set l n b) (omega arith)

-- n bytes of a line are kept, and the buffers have the lengths that they had
pub record Kept (l₀ t₀ l t : List ℕ) (n : ℕ) : Type 0 where
  pub within : n ≤ length l
  pub line : length l ≡ length l₀
  pub text : length t ≡ length t₀
