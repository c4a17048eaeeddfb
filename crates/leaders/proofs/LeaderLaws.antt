-- The leader of a class, by a frame 34 that is found. Assumes nothing.
use Prim.Native.Nat.{ℕ, ◌/◌, ◌%◌}
use mathlib.Core.Path.{◌≡◌, refl}
use mathlib.Core.List.{List, [], ◌∷◌}
use native.Mathlib.Omega.{arith}
use lib.ListN.{length}
use Rattle.hexadecimal.specs.Digits.{short_at}
use Rattle.indexing.specs.Kinds.{kind_at}
use Rattle.indexing.specs.Index.{Proper}
use Rattle.indexing.specs.Keys.{find}
use Rattle.records.specs.Leaders.{leader_from, leader_in}

pub leads_itself : (l : List ℕ) (c : ℕ) → length l ≡ 0 → c ≡ leader_from l c
leads_itself [] c h = refl
leads_itself (b ∷ l) c h = absurd (omega arith)

pub leader_read : (l : List ℕ) (c r : ℕ) → (length l ≡ 0 → ⊥) → r ≡ short_at l 3 → r ≡ leader_from l c
leader_read [] c r h e = absurd (h refl)
leader_read (b ∷ l) c r h e = e

pub leading_proper : (a b : ℕ) → Proper (0x34 ∷ a ∷ b ∷ [])
unfolding kind_at
leading_proper a b = record { keyed = omega arith; whole = omega arith }

pub leader_found : (a b c : ℕ) (l : List ℕ) (fs : List (List ℕ)) (r : ℕ) → a ≡ c / 0x100 → b ≡ c % 0x100 → l ≡ find (0x34 ∷ a ∷ b ∷ []) fs → r ≡ leader_from l c → r ≡ leader_in fs c
leader_found a b c l fs r h k p q = rw (← h, ← k, ← p) q
