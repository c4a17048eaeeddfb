-- The cost of one item of an atom. Proved by what its sample gives.
use Rattle.std.specs.Prelude.{None}
use Rattle.std.specs.Prelude.{Option as OptionOf}
use Rattle.query.specs.Settings.{Sampled}
use Prim.Native.Nat.{ℕ, ◌≤◌}
use mathlib.Core.Path.{◌≡◌, refl, ◌∙◌}
use mathlib.Core.Bool.{true, false, not}
use mathlib.Core.Option.{Option, none, some}
use mathlib.Core.List.{List}
use lib.Ieee.{Float, binary64, mul}
use lib.ListN.{length}
use borrow.Author.Tests.{not-true, not-false}
use Rattle.measure.specs.Selectivity.{path_selectivity}
use Rattle.query.specs.Statistics.{denominator}
use Rattle.samples.specs.Emitters.{Emitters}
use Rattle.samples.specs.Memo.{tally_at}
use Rattle.query.specs.Lookups.{operand_at}
use Rattle.samples.specs.Costs.{sampled, or_measured}
use Rattle.item_pricing.specs.ItemCosts.{item_probe, item_cost, cost_behind, Stands, cost_at}
use Rattle.prices.specs.Items.{item_fan, or_fan}
use Rattle.samples.specs.Remembering.{Remembers, Gives}
use Rattle.samples.specs.declared.memo.Sample.{Sample}
use Rattle.item_pricing.specs.declared.items.Costed.{Costed}
use Rattle.samples.specs.declared.sampled.Probe.{Probe}
use Rattle.prices.specs.declared.items.Item.{Item}

or_measured_lem : (v : Option Float) (f : OptionOf Float) → or_fan (or_measured v None) f ≡ or_measured v f
or_measured_lem none f = refl
or_measured_lem (some x) f = refl

module _ (fs : List (List ℕ)) (em : Emitters) (f : List ℕ) (x : Item) (ks : List ℕ) (c : Costed) where
  pub unbound_stands : (how : Sampled) (xs : List Float) → not x.bound ≡ true → Remembers fs how ks xs c.tallies → Stands fs how ks xs c (cost_behind fs em f x (cost_at ks c))
  unbound_stands how xs h m = rw (not-true x.bound h) record { cost = refl; tally = refl; memo = m }

  module _ (h : not x.bound ≡ false) (q : Probe) (hq : q ≡ item_probe x) where
    pub item_room : length (cost_behind fs em f x (cost_at ks c)).tally.memo ≤ length ks → length (sampled fs em (operand_at f x.at) q.op q.path q.place (tally_at ks c.tallies)).tally.memo ≤ length ks
    unfolding item_cost
    item_room l = rw hq (rw (not-false x.bound h) at l)

    pub item_stands : (how : Sampled) (ks' : List ℕ) (xs : List Float) (s : Sample) (e : Float) → Gives fs how ks' xs s (sampled fs em (operand_at f x.at) q.op q.path q.place (tally_at ks c.tallies)) → e ≡ path_selectivity (or_fan s.fan (item_fan fs x.op x.element x.position)) (denominator fs x.op) → Stands fs how ks' xs (record { cost = mul binary64 c.cost e; tallies = s.tallies }) (cost_behind fs em f x (cost_at ks c))
    unfolding item_cost
    item_stands how ks' xs s e a he = rw (not-false x.bound h) record {
      cost = rw (he, a.fan, or_measured_lem, hq);
      tally = a.tally ∙ rw hq;
      memo = a.memo;
    }
