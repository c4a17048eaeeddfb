-- Bytes laid one after another. Assumes nothing.
use Prim.Native.Nat.{ℕ, ◌+◌, ◌-◌, ◌/◌, ◌%◌, ◌<◌, ◌≤◌}
use mathlib.Core.Path.{◌≡◌, refl, sym, ◌∙◌, ap}
use mathlib.Core.List.{List, [], ◌∷◌, ◌++◌, append_assoc}
use native.Mathlib.Numerals.{add-one}
use native.Mathlib.Omega.{arith}
use lib.ListN.{length, take, drop, set, length-set, length-append}
use lib.Seq.{take-suc-set, take-take, take_at, drop_at, take-add, length-take-le}
use Rattle.records.specs.ModelLimits.{class_bytes}
use Rattle.standing.specs.Laid.{Lays}

pub lays_byte : (o : List ℕ) (at b : ℕ) → at < length o → Lays o at (b ∷ []) (set o at b) (at + 1)
lays_byte o at b h = record { is = rw (add-one at) (take-suc-set o at b h); end = refl; size = length-set o at b }

module _ {o : List ℕ} {at : ℕ} {xs p : List ℕ} {i : ℕ} (a : Lays o at xs p i) where
  -- there is room for k more
  pub lays_room : (k : ℕ) → at + (length xs + k) ≤ length o → i + k ≤ length p
  lays_room k h = omega (arith, a.end, a.size)

  -- and something behind it
  pub lays_both : {ys q : List ℕ} {j : ℕ} → Lays p i ys q j → Lays o at (xs ++ ys) q j
  lays_both {ys} {q} {j} b = record {
    is = b.is ∙ ap (λ (l : List ℕ). l ++ ys) a.is ∙ append_assoc (take at o) xs ys;
    end = omega (arith, a.end, b.end, length-append xs ys);
    size = b.size ∙ a.size;
  }

  -- what stands before is as it was
  pub lays_before : at ≤ length o → take at p ≡ take at o
  lays_before h =
      let e = a.end in
      sym (take-take at i p (omega arith)) ∙ ap (take at) a.is ∙ take_at (take at o) xs at (length-take-le at o h)

  -- and the bytes stand behind it
  pub lays_there : at ≤ length o → take (i - at) (drop at p) ≡ xs
  lays_there h = let e : i ≡ at + (i - at) = omega (arith, a.end) in behind (ap (λ (n : ℕ). take n p) (sym e) ∙ a.is)
    where
      behind : take (at + (i - at)) p ≡ take at o ++ xs → take (i - at) (drop at p) ≡ xs
      behind q =
          sym (drop_at (take at p) (take (i - at) (drop at p)) at (length-take-le at p (rw a.size h)))
          ∙ ap (drop at) (sym (take-add at (i - at) p) ∙ q)
          ∙ drop_at (take at o) xs at (length-take-le at o h)

-- a number of two bytes
pub lays_short : {o p q : List ℕ} {at i j h l : ℕ} (x : ℕ) → Lays o at (h ∷ []) p i → h ≡ x / 0x100 → Lays p i (l ∷ []) q j → l ≡ x % 0x100 → Lays o at (class_bytes x) q j
lays_short x a h b l = rw (← h, ← l) (lays_both a b)
