-- The bits of the costs of a round. Proved place by place.
use Prim.Native.Nat.{ℕ, ◌+◌, ◌<◌, ◌≤◌}
use mathlib.Core.Path.{◌≡◌, refl, sym, ◌∙◌}
use mathlib.Core.List.{List}
use native.Mathlib.Omega.{arith}
use native.Mathlib.Decide.{dec_lt}
use lib.ListN.{length, get_or, set, take, length-set, get_or-eq_default}
use lib.Seq.{length-take-le, get_or-set_same, get_or-set_other, get_or-take, ext_get_or}
use Rattle.model.proofs.Lists.{any_default}
use Rattle.model.proofs.TabulateLaws.{tabulate_at, tabulate_length}
use Rattle.cost_bits.specs.CostBits.{no_cost}
use Rattle.cost_bits.specs.ToldBits.{bits_in}

module _ (cs : List ℕ) (n i : ℕ) (room : n ≤ length cs) where
  pub bits_past : n ≤ i → no_cost ≡ get_or (take n cs) i no_cost
  bits_past h = sym (get_or-eq_default (take n cs) no_cost (omega (arith, length-take-le n cs room)))

  pub bits_there : (z : ℕ) → i < n → get_or cs i z ≡ get_or (take n cs) i no_cost
  bits_there z h = any_default cs i z no_cost (omega arith) ∙ sym (get_or-take n cs i no_cost h)

abbrev bit : List ℕ → ℕ → ℕ
bit cs i = get_or cs i no_cost

pub record Filling (cs : List ℕ) (out₀ out : List ℕ) (i : ℕ) : Type 0 where
  pub size : length out ≡ length out₀
  pub few : i ≤ length out
  pub is : (j : ℕ) → j < i → get_or out j 0 ≡ get_or cs j no_cost

pub filling_none : (cs : List ℕ) (out : List ℕ) → Filling cs out out 0
filling_none cs out = record { size = refl; few = omega arith; is = λ j h. absurd (omega arith) }

module _ (cs : List ℕ) (out₀ out : List ℕ) (i : ℕ) (f : Filling cs out₀ out i) where
  pub filling_again : i < length out → (v : ℕ) → v ≡ get_or cs i no_cost → Filling cs out₀ (set out i v) (i + 1)
  filling_again h v e = record { size = length-set out i v ∙ f.size; few = omega (arith, length-set out i v); is = λ j l. at j l (dec_lt j i) }
    where
      at : (j : ℕ) → j < i + 1 → Dec (j < i) → get_or (set out i v) j 0 ≡ bit cs j
      at j l (yes q) = get_or-set_other out i j v 0 (λ p. omega arith) ∙ f.is j q
      at j l (no q) = let p : j ≡ i = omega (arith, q) in rw p (get_or-set_same out i v 0 h ∙ e)

  pub filled : length out ≤ i → out ≡ bits_in cs (length out₀)
  filled h =
      ext_get_or 0 out (bits_in cs (length out₀)) (f.size ∙ sym (tabulate_length (length out₀) (bit cs)))
      (λ j l. f.is j (omega arith) ∙ sym (tabulate_at (length out₀) (bit cs) j 0 (omega (arith, f.size))))
