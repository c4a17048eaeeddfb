-- The scan of a line, and its end. Proved byte by byte.
use Rattle.std.specs.Prelude.{None}
use Rattle.std.specs.Prelude.{Option as OptionOf}
use Prim.Native.Nat.{ℕ, suc, ◌+◌, ◌-◌, ◌<◌, ◌≤◌}
use mathlib.Core.Path.{◌≡◌, sym, ◌∙◌}
use mathlib.Core.Bool.{Bool, true, false}
use mathlib.Core.List.{List, [], ◌∷◌}
use native.Mathlib.Numerals.{add-one}
use native.Mathlib.Omega.{arith}
use lib.ListN.{length, get_or, take, drop, drop_of_length-le}
use lib.Seq.{drop-cons, take-nil}
use lib.Dec.{eqb}
use borrow.Author.Tests.{eq-eqb, ne_eqb}
use Rattle.hexadecimal.specs.Choose.{pick}
use Rattle.hexadecimal.specs.Digits.{digit_value}
use Rattle.hex_lines.specs.Lines.{hex_line_of, end_of, line_at, stopped_at}
use Rattle.hex_lines.proofs.Scan.{scan, scan_line}

module _ (t : List ℕ) (at i : ℕ) where
  -- the pass over a line's digits: it starts, goes on, meets another byte, meets the end
  pub scan_starts : hex_line_of at (drop at t) ≡ scan at at (drop at t)
  scan_starts = sym (scan_line at (drop at t))

  pub scan_again : (v : ℕ) → hex_line_of at (drop at t) ≡ scan at i (drop i t) → i < length t → v ≡ digit_value (get_or t i 0) → (v ≡ 16 → ⊥) → hex_line_of at (drop at t) ≡ scan at (i + 1) (drop (i + 1) t)
  unfolding scan
  scan_again v q h e n = q ∙ rw (add-one i, drop-cons t i 0 h, ← e, ne_eqb _ _ n)

  pub scan_stops : (v : ℕ) (f : OptionOf ℕ) → hex_line_of at (drop at t) ≡ scan at i (drop i t) → i < length t → v ≡ digit_value (get_or t i 0) → v ≡ 16 → f ≡ stopped_at at i (get_or t i 0) → f ≡ hex_line_of at (drop at t)
  unfolding scan
  scan_stops v f q h e n p = p ∙ sym (q ∙ rw (drop-cons t i 0 h, ← e, eq-eqb _ _ n))

  pub scan_ends : hex_line_of at (drop at t) ≡ scan at i (drop i t) → length t ≤ i → None ≡ hex_line_of at (drop at t)
  unfolding scan
  scan_ends q h = sym (q ∙ rw (drop_of_length-le t h))

  -- the search for 0a
  pub end_again : end_of at (drop at t) ≡ end_of i (drop i t) → i < length t → (get_or t i 0 ≡ 10 → ⊥) → end_of at (drop at t) ≡ end_of (i + 1) (drop (i + 1) t)
  end_again q h n = q ∙ rw (add-one i, drop-cons t i 0 h, ne_eqb _ _ n)

  pub end_hit : end_of at (drop at t) ≡ end_of i (drop i t) → i < length t → get_or t i 0 ≡ 10 → i ≡ end_of at (drop at t)
  end_hit q h n = sym (q ∙ rw (drop-cons t i 0 h, eq-eqb _ _ n))

  pub end_none : end_of at (drop at t) ≡ end_of i (drop i t) → length t ≤ i → i ≡ end_of at (drop at t)
  end_none q h = sym (q ∙ rw (drop_of_length-le t h))

pub end_from : (x : List ℕ) (at e : ℕ) → e ≡ end_of at (drop at x) → at ≤ e
end_from x at e h = rw h (go (drop at x) at)
  where
    go : (t : List ℕ) (at : ℕ) → at ≤ end_of at t
    go [] at = omega arith
    go (b ∷ t) at = by (eqb b 10) (go t (suc at))
      where
        by : (d : Bool) → suc at ≤ end_of (suc at) t → at ≤ pick d at (end_of (suc at) t)
        by true h = omega arith
        by false h = omega arith

-- past the end of the text there is none
pub line_past : (t : List ℕ) (at : ℕ) → length t < at → take 0 t ≡ line_at t at
line_past t at h = let l : length t ≤ at = omega arith in rw (drop_of_length-le t l) (sym (take-nil (end_of at [] - at)))

pub line_is : (t : List ℕ) (at e : ℕ) → e ≡ end_of at (drop at t) → take (e - at) (drop at t) ≡ line_at t at
line_is t at e h = rw h
