-- What is lent for a text by its length. Assumes nothing.
use Prim.Native.Nat.{ℕ, ◌≤◌}
use mathlib.Core.Path.{◌≡◌}
use mathlib.Core.List.{List}
use native.Mathlib.Omega.{arith}
use lib.ListN.{length, replicate, length-replicate}
use Rattle.second_reading.proofs.Lists.{blank_at}
use Rattle.second_reading.specs.Limits.{text_most}
use Rattle.second_reading.specs.Index.{slots_for}
use Rattle.reading.specs.IndexedReading.{sheet_for, index_for, Lent}

-- arrays of zeros serve every text of up to `most` bytes, where the index is as long as its slots ask
pub lent_for : (x : List ℕ) (most slots : ℕ) → slots_for (index_for slots most) ≡ slots → (length x ≤ text_most → length x ≤ most) → Lent x (replicate (sheet_for most) 0) (replicate (index_for slots most) 0)
lent_for x most slots p h = record {
  sheet = record { room = λ l. rw (length-replicate {A = ℕ} (sheet_for most) 0) (let g = h l in omega arith) };
  index = record { room = λ l. rw (length-replicate {A = ℕ} (index_for slots most) 0, p) (let g = h l in omega arith); blank = blank_at (index_for slots most) 0 };
}
