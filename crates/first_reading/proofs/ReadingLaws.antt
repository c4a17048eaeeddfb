-- A fault stops the reading, and an accepted line has none; the first line is the line at 0. Proved by computing.
use Prim.Native.Nat.{ℕ, zero, suc, ◌-◌}
use mathlib.Core.Path.{◌≡◌, refl}
use mathlib.Core.List.{List}
use native.Mathlib.Omega.{arith}
use Rattle.hex_lines.specs.Lines.{end_of, line_at}
use Rattle.first_reading.specs.Reading.{Reading}
use Rattle.first_reading.specs.Reading.{Accepted, Refused}
use Rattle.first_reading.specs.First.{or_else, first_line}

pub or_stops : (k n : ℕ) (a : Reading) → (k ≡ 0 → ⊥) → or_else k n a ≡ Refused k (suc n)
or_stops zero n a h = absurd (h refl)
or_stops (suc k) n a h = refl

pub or_passes : (k m : ℕ) (a : Reading) (n c : ℕ) → or_else k m a ≡ Accepted n c → (k ≡ 0) × (a ≡ Accepted n c)
or_passes zero m a n c p = (refl, p)
or_passes (suc k) m a n c p = let z : ◌≡◌ {A = ℕ} 0 1 = cc in absurd (omega arith)

pub first_line_lem : (x : List ℕ) → line_at x 0 ≡ first_line x
first_line_lem x = let e : end_of 0 x - 0 ≡ end_of 0 x = omega arith in rw e
