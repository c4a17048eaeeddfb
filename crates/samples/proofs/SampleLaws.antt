-- The sample of a probe by one operand. Proved by the operand's tag, its emitter and the settings.
use Rattle.std.specs.Prelude.{Some, None}
use Rattle.query.specs.Settings.{Sampled}
use Prim.Native.Nat.{ℕ, zero, suc, ◌+◌, ◌-◌, ◌<◌, ◌≤◌}
use mathlib.Core.Path.{◌≡◌, refl, ◌∙◌, ap}
use mathlib.Core.Option.{Option, none}
use mathlib.Core.List.{List, map}
use native.Mathlib.Omega.{arith}
use lib.Ieee.{Float}
use lib.ListN.{length, get_or, get_or-map}
use borrow.Author.Tests.{eq-eqb, ne_eqb}
use Rattle.query.specs.Given.{Given}
use Rattle.measure.specs.declared.SamplerConfig.{SamplerConfig}
use Rattle.query.specs.Statistics.{settings}
use Rattle.memo_entries.specs.Key.{Key}
use Rattle.memo_entries.specs.Sampling.{Sampling}
use Rattle.memo_entries.specs.CostSampling.{Tally, after_estimate}
use Rattle.memo_entries.specs.Emitters.{Emitter, decode}
use Rattle.memo_entries.specs.Memo.{tally_at}
use Rattle.query.specs.Lookups.{operand_at}
use Rattle.memo_entries.specs.Costs.{Estimated, estimate, sampled_by, sampled}
use Rattle.samples.specs.Remembering.{number_key, Samples, Remembers, Gives}
use Rattle.samples.specs.declared.memo.Sample.{Sample}

pub some_number : (e : ℕ) → (e ≡ 0 → ⊥) → 0 < e
some_number zero h = absurd (h refl)
some_number (suc c) h = omega arith

nothing_gives : (fs : List (List ℕ)) (how : Sampled) (ks : List ℕ) (xs : List Float) (s : Sampling) (r : Sample) (o : Estimated) → Remembers fs how ks xs s → r ≡ record { fan = None; tallies = s } → o ≡ record { value = none; tally = tally_at ks s } → Gives fs how ks xs r o
nothing_gives fs how ks xs s r o m a e = rw (a, e) record { fan = refl; tally = refl; memo = m }

module _ (fs : List (List ℕ)) (em f : List ℕ) (j o path place : ℕ) (how : Sampled) (ks : List ℕ) (xs : List Float) (s : Sampling) (m : Remembers fs how ks xs s) (b : ℕ) (is : b ≡ get_or f j 0) where
  pub global_sample : (r : Sample) → (b ≡ 0 → ⊥) → r ≡ record { fan = None; tallies = s } → Gives fs how ks xs r (sampled fs (map decode em) (operand_at f j) o path place (tally_at ks s))
  global_sample r h a = nothing_gives fs how ks xs s r _ m a (rw (← is, ne_eqb b 0 h))

  module _ (v e : ℕ) (h : b ≡ 0) (hv : v ≡ get_or f (j + 1) 0) (he : e ≡ get_or em v 0) where
    local_by : (t : Tally) → sampled fs (map decode em) (operand_at f j) o path place t ≡ sampled_by fs (decode e) o path place t
    local_by t = rw (← is, eq-eqb b 0 h, ← hv, he) (ap (λ (q : Option Emitter). sampled_by fs q o path place t) (get_or-map decode em v 0))

    pub no_emitter : (r : Sample) → e ≡ 0 → r ≡ record { fan = None; tallies = s } → Gives fs how ks xs r (sampled fs (map decode em) (operand_at f j) o path place (tally_at ks s))
    no_emitter r g a = nothing_gives fs how ks xs s r _ m a (local_by (tally_at ks s) ∙ rw g)

    module _ (z : Samples fs how) (g : e ≡ 0 → ⊥) where
      probe_by : (t : Tally) → sampled fs (map decode em) (operand_at f j) o path place t ≡ estimate fs how (number_key e o path place) t
      probe_by t = local_by t ∙ rw z.set (at e g)
        where
          at : (e : ℕ) → (e ≡ 0 → ⊥) → sampled_by fs (decode e) o path place t ≡ estimate fs (settings fs) (number_key e o path place) t
          at zero g = absurd (g refl)
          at (suc c) g =
              let d : suc c - 1 ≡ c = omega arith in
              rw d

      pub sampling_off : (r : Sample) → how ≡ None → r ≡ record { fan = None; tallies = s } → Gives fs how ks xs r (sampled fs (map decode em) (operand_at f j) o path place (tally_at ks s))
      sampling_off r w a = nothing_gives fs how ks xs s r _ m a (probe_by (tally_at ks s) ∙ rw w)

      module _ (cfg : SamplerConfig) (w : how ≡ Some cfg) (x : Key) (hx : x ≡ number_key e o path place) where
        sampled_on : sampled fs (map decode em) (operand_at f j) o path place (tally_at ks s) ≡ estimate fs (Some cfg) x (tally_at ks s)
        sampled_on = probe_by (tally_at ks s) ∙ rw (w, hx)

        pub estimate_ready : (y i : List ℕ) → Given y i → length (sampled fs (map decode em) (operand_at f j) o path place (tally_at ks s)).tally.memo ≤ length ks → Samples fs (Some cfg) × (Remembers fs (Some cfg) ks xs s × ((length (after_estimate fs cfg x (tally_at ks s)).memo ≤ length ks) × Given y i))
        estimate_ready y i n l = (rw w at z, (rw w at m, (rw sampled_on at l, n)))

        pub sampled_gives : (ks' : List ℕ) (xs' : List Float) (r : Sample) → Gives fs (Some cfg) ks' xs' r (estimate fs (Some cfg) x (tally_at ks s)) → Gives fs how ks' xs' r (sampled fs (map decode em) (operand_at f j) o path place (tally_at ks s))
        sampled_gives ks' xs' r q = rw (sampled_on, w) q
