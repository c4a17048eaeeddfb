-- A line's digits in one pass: what the pass over the bytes finds is what the split into lines says. Assumes nothing.
use Rattle.std.specs.Prelude.{Some, None}
use Rattle.std.specs.Prelude.{Option as OptionOf}
use Prim.Native.Nat.{ℕ, suc, ◌+◌, ◌-◌, ◌%◌}
use mathlib.Core.Path.{◌≡◌, refl, ◌∙◌}
use mathlib.Core.List.{List, [], ◌∷◌}
use mathlib.Core.Bool.{Bool, true, false}
use native.Mathlib.Omega.{arith}
use native.Mathlib.Nat.{add-zero, add-suc, suc-add}
use lib.ListN.{length}
use lib.Dec.{eqb}
use borrow.Author.Tests.{eqb-true}
use Rattle.hexadecimal.specs.Choose.{pick}
use Rattle.hexadecimal.specs.Digits.{digit_value}
use Rattle.hex_lines.specs.Lines.{with_byte, split, all_digits, hex_line_in, hex_line_of, stopped_at}

-- digits were seen from `at` up to i, and t comes next
unfoldable pub scan : ℕ → ℕ → List ℕ → OptionOf ℕ
scan at i [] = None
scan at i (b ∷ t) = pick (eqb (digit_value b) 16) (stopped_at at i b) (scan at (suc i) t)

-- the same from the lines of t
Seen : ℕ → ℕ → List (List ℕ) → OptionOf ℕ
Seen at i [] = None
Seen at i (l ∷ ls) =
    pick (all_digits l) (pick (eqb (i + length l - at) 0) None (pick (eqb ((i + length l - at) % 2) 0) (Some (i + length l)) None)) None

-- a digit more in front of what follows
digit_more : (at i b : ℕ) (ls : List (List ℕ)) (r : List ℕ) → eqb (digit_value b) 16 ≡ false → Seen at (suc i) ls ≡ Seen at i (with_byte b ls r).ended
unfolding Seen
digit_more at i b [] r e = refl
digit_more at i b (l ∷ ls) r e = rw (e, add-suc i (length l), suc-add i (length l))

other_byte : (at i b : ℕ) (ls : List (List ℕ)) (r : List ℕ) → eqb (digit_value b) 16 ≡ true → None ≡ Seen at i (with_byte b ls r).ended
unfolding Seen
other_byte at i b [] r e = refl
other_byte at i b (l ∷ ls) r e = rw e

module _ (at i b : ℕ) (t : List ℕ) where
  scan_by : (f g : Bool) → eqb b 10 ≡ f → eqb (digit_value b) 16 ≡ g → (g ≡ false → scan at (suc i) t ≡ Seen at (suc i) (split t).ended) → scan at i (b ∷ t) ≡ Seen at i (split (b ∷ t)).ended
  unfolding scan split Seen
  scan_by true true e d h = rw (e, d, add-zero i)
  scan_by true false e d h = absurd (no_digit (eqb-true b 10 e) d)
    where
      no_digit : b ≡ 10 → eqb (digit_value b) 16 ≡ false → ⊥
      no_digit p q = let z : eqb (digit_value 10) 16 ≡ false = rw p at q in (let y : true ≡ false = z in let w : ◌≡◌ {A = ℕ} 0 1 = cc in omega arith)
  scan_by false true e d h = rw (e, d) (other_byte at i b (split t).ended (split t).rest d)
  scan_by false false e d h = rw (e, d) (h refl ∙ digit_more at i b (split t).ended (split t).rest d)

scan_seen : (at i : ℕ) (t : List ℕ) → scan at i t ≡ Seen at i (split t).ended
unfolding scan split Seen
scan_seen at i [] = refl
scan_seen at i (b ∷ t) = scan_by at i b t (eqb b 10) (eqb (digit_value b) 16) refl refl (λ _. scan_seen at (suc i) t)

seen_line : (at : ℕ) (ls : List (List ℕ)) → Seen at at ls ≡ hex_line_in at ls
unfolding Seen
seen_line at [] = refl
seen_line at (l ∷ ls) =
    let z : at + length l - at ≡ length l = omega arith in
    rw z (swap (all_digits l) (eqb (length l) 0) (eqb (length l % 2) 0))
  where
    swap : (a e o : Bool) → pick a (pick e None (pick o (Some (at + length l)) None)) None ≡ pick (pick e false (pick o a false)) (Some (at + length l)) None
    swap true true o = refl
    swap true false true = refl
    swap true false false = refl
    swap false true o = refl
    swap false false true = refl
    swap false false false = refl

-- one pass finds the first line's end
pub scan_line : (at : ℕ) (t : List ℕ) → scan at at t ≡ hex_line_of at t
scan_line at t = scan_seen at at t ∙ seen_line at (split t).ended
