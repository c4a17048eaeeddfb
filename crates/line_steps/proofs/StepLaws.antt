-- How a line moves the first reading on. Assumes nothing.
use Prim.Native.Nat.{ℕ, ◌+◌, ◌-◌, ◌/◌}
use mathlib.Core.Path.{◌≡◌, ◌∙◌}
use mathlib.Core.List.{List}
use native.Mathlib.Omega.{arith}
use lib.ListN.{length, get_or, take, drop}
use lib.Dec.{eqb}
use borrow.Author.Tests.{eq-eqb, ne_eqb}
use Rattle.frame_tests.specs.declared.tests.Text.{Text}
use Rattle.line_steps.specs.declared.stand.Stand.{Stand}
use Rattle.frame_tests.specs.Faults.{counted, frame_fault}
use Rattle.line_steps.specs.Steps.{ended_at, after_frame, after_line}

module _ (s : Stand) (t : Text) (p : ℕ) where
  module _ (f : List ℕ) (k : ℕ) (e : k ≡ frame_fault t (eqb s.n 0) s.c f) where
    pub frame_fails : (r : Stand) → (k ≡ 0 → ⊥) → r ≡ ended_at s p k → r ≡ after_frame t f s p
    frame_fails r z g = g ∙ rw (← e, ne_eqb _ _ z)

    pub frame_passes_lem : k ≡ 0 → (b v : ℕ) → b ≡ get_or f 0 0 → v ≡ counted t s.c b → record { at = p; to = s.to + length f; n = s.n + 1; c = v; end = s.end; fault = 0 } ≡ after_frame t f s p
    frame_passes_lem z b v g h = rw (h, g, ← e, eq-eqb _ _ z)

  module _ (y : List ℕ) (r : Stand) where
    pub line_missing : p ≡ s.at → r ≡ ended_at s p 1 → r ≡ after_line t y s p
    line_missing h g = g ∙ rw (eq-eqb _ _ h)

    pub line_there : (p ≡ s.at → ⊥) → r ≡ after_frame t (take (s.to + (p - s.at) / 2 - s.to) (drop s.to y)) s p → r ≡ after_line t y s p
    line_there h g =
        let m : s.to + (p - s.at) / 2 - s.to ≡ (p - s.at) / 2 = omega arith in
        g ∙ rw (ne_eqb _ _ h, m)
