-- The fields of a frame, and the value of a digit. Assumes nothing.
use Prim.Native.Nat.{ℕ, ◌+◌, ◌-◌, ◌*◌, ◌<◌, ◌≤◌}
use mathlib.Core.Path.{◌≡◌, ◌∙◌}
use mathlib.Core.List.{List}
use native.Mathlib.Omega.{arith}
use lib.ListN.{get_or}
use borrow.Author.Tests.{lt-ltb, le-ltb}
use Rattle.hexadecimal.specs.Digits.{digit_value, word_at}

-- ---- the fields of a frame

pub word_is : (f : List ℕ) (i r : ℕ) → r ≡ (get_or f i 0 * 0x100 + get_or f (i + 1) 0) * 0x1_0000 + (get_or f (i + 2) 0 * 0x100 + get_or f (i + 3) 0) → r ≡ word_at f i
word_is f i r p = let e : i + 2 + 1 ≡ i + 3 = omega arith in p ∙ rw e

-- ---- the value of a digit, told apart from the middle

module _ (b : ℕ) where
  pub value_digit : b < 58 → 48 ≤ b → (b - 48 ≡ digit_value b) × (b - 48 ≤ 16)
  value_digit h g = (rw (le-ltb b 48 g, lt-ltb b 58 h), omega arith)

  pub value_lower : 97 ≤ b → b < 103 → (b - 87 ≡ digit_value b) × (b - 87 ≤ 16)
  value_lower h g = (rw (le-ltb b 48 (omega arith), le-ltb b 58 (omega arith), le-ltb b 65 (omega arith), le-ltb b 71 (omega arith), le-ltb b 97 h, lt-ltb b 103 g), omega arith)
