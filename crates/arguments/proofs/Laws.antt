-- The digits of an argument, one by one. Assumes nothing.
use Prim.Native.Nat.{ℕ, ◌+◌, ◌-◌, ◌*◌, ◌<◌, ◌≤◌}
use mathlib.Core.Path.{◌≡◌, refl, sym, ◌∙◌}
use mathlib.Core.Bool.{Bool, true, false, not}
use mathlib.Core.List.{List, [], ◌∷◌}
use native.Mathlib.Omega.{arith}
use native.Mathlib.Numerals.{add-one}
use lib.ListN.{length, get_or, drop, drop_of_length-le}
use lib.Seq.{drop-cons}
use lib.Dec.{leb}
use borrow.Author.Tests.{leb-true, ne_eqb, not-true, not-false}
use Rattle.base.specs.Choose.{pick}
use Rattle.base.proofs.ChooseLaws.{both_hold}
use Rattle.std.specs.Prelude.{◌==◌, Some, None}
use Rattle.arguments.specs.Decimal.{largest, fits, decimal_from, decimal_of}

-- ---- one digit

module _ (v b : ℕ) where
  pub fit_low : fits v b ≡ true → 48 ≤ b
  fit_low h = leb-true 48 b (both_hold (leb 48 b) (pick (leb b 57) (leb (v * 10 + (b - 48)) largest) false) h).0

  pub fit_small : fits v b ≡ true → v * 10 + (b - 48) ≤ largest
  fit_small h = leb-true (v * 10 + (b - 48)) largest (both_hold (leb b 57) (leb (v * 10 + (b - 48)) largest) (both_hold (leb 48 b) (pick (leb b 57) (leb (v * 10 + (b - 48)) largest) false) h).1).1

-- ---- the digits in turn

-- i bytes gave the value v, and those behind them give what all give
pub record Counting (bs : List ℕ) (v i : ℕ) : Type 0 where
  pub few : i ≤ length bs
  pub is : decimal_of bs ≡ decimal_from v (drop i bs)

pub nothing_given : (bs : List ℕ) → (length bs == 0) ≡ true → None ≡ decimal_of bs
unfolding decimal_of
nothing_given [] h = refl
nothing_given (b ∷ bs) h = cc (ne_eqb (length (b ∷ bs)) 0 (λ e. omega arith))

pub counting_none : (bs : List ℕ) → (length bs == 0) ≡ false → Counting bs 0 0
unfolding decimal_of
counting_none [] h = cc
counting_none (b ∷ bs) h = record { few = omega arith; is = refl }

module _ (bs : List ℕ) (v i : ℕ) (s : Counting bs v i) where
  pub all_counted : length bs ≤ i → Some v ≡ decimal_of bs
  unfolding decimal_from
  all_counted h = sym (s.is ∙ rw (drop_of_length-le bs h))

  module _ (h : i < length bs) (r : Bool) (q : r ≡ fits v (get_or bs i 0)) where
    pub no_digit : not r ≡ true → None ≡ decimal_of bs
    unfolding decimal_from
    no_digit l = sym (s.is ∙ rw (drop-cons bs i 0 h, ← q, not-true r l))

    pub one_digit : (w : ℕ) → not r ≡ false → w ≡ v * 10 + (get_or bs i 0 - 48) → Counting bs w (i + 1)
    unfolding decimal_from
    one_digit w l e = record { few = omega arith; is = s.is ∙ rw (drop-cons bs i 0 h, ← q, not-false r l, ← e, add-one i) }
