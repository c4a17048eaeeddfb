-- What is remembered, by the settings that it has itself.
use Rattle.query.specs.Settings.{Sampled}
use Prim.Native.Nat.{ℕ}
use mathlib.Core.Path.{sym, subst}
use mathlib.Core.List.{List}
use lib.Ieee.{Float}
use Rattle.memo_entries.specs.Sampling.{Sampling}
use Rattle.samples.specs.Remembering.{Samples, Remembers}

module _ (fs : List (List ℕ)) (how : Sampled) (ks : List ℕ) (xs : List Float) (s : Sampling) (m : Remembers fs how ks xs s) where
  pub own_samples : Samples fs how → Samples fs s.how
  own_samples h = subst (Samples fs) (sym m.set) h

  pub own_memo : Remembers fs s.how ks xs s
  own_memo = subst (λ (h : Sampled). Remembers fs h ks xs s) (sym m.set) m
