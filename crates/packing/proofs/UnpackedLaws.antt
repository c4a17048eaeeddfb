-- What is read out of a packed answer is the answer. Proved by arithmetic.
use Prim.Native.Nat.{ℕ, ◌<◌, ◌≤◌}
use mathlib.Core.Path.{◌≡◌, refl}
use mathlib.Core.Bool.{true, false}
use native.Mathlib.Omega.{arith}
use borrow.Author.Tests.{lt-leb, le-leb}
use Rattle.packing.specs.Packed.{packed_refusal, packed_counts, packed_written}
use Rattle.packing.specs.Unpacked.{is_refused, TellsRefusal, TellsCounts, TellsWritten, TellsPlain}

-- ---- each is told

refused_bit : (n : ℕ) → 0x8000_0000_0000_0000 ≤ n → is_refused n ≡ true
refused_bit n h = le-leb 0x8000_0000_0000_0000 n h

no_bit : (n : ℕ) → n < 0x8000_0000_0000_0000 → is_refused n ≡ false
no_bit n h = lt-leb _ _ h

pub refusal_told : (k x l : ℕ) → k < 0x100 → x < 0x100 → l < 0x1_0000 → TellsRefusal k x l (packed_refusal k x l)
refusal_told k x l p q r = record { told = refused_bit (packed_refusal k x l) (omega arith); number = omega arith; text = omega arith; line = omega arith }

pub counts_told : (b s t r : ℕ) → b < 0x8000 → s < 0x1_0000 → t < 0x1_0000 → r < 0x1_0000 → TellsCounts b s t r (packed_counts b s t r)
counts_told b s t r h i j k = record { told = no_bit (packed_counts b s t r) (omega arith); bytes = omega arith; steps = omega arith; tallied = omega arith; rejected = omega arith }

pub written_told : (c w : ℕ) → c < 4 → TellsWritten c w (packed_written c w)
written_told c w h = record { told = no_bit (packed_written c w) (omega arith); status = omega arith; bytes = omega arith }

pub plain_told : (k : ℕ) → k < 0x200 → TellsPlain k k
plain_told k h = record { told = no_bit k (omega arith); is = refl }
