-- The cost of the items of an atom's frame, children of a Plain or elements of a collection, in one definition.
use Rattle.query.specs.Settings.{Sampled}
use Rattle.std.specs.Prelude.{ℕ, suc, ◌≡◌, Bool, true, false, List, [], ◌∷◌, ltb, get_or, Float}
use Rattle.fields.specs.Choose.{pick}
use Rattle.query.specs.Statistics.{denominator}
use Rattle.query.specs.Atoms.{Operand}
use Rattle.query.specs.Bound.{Bound}
use Rattle.query.specs.Lowering.{pv_is_bound}
use Rattle.samples.specs.Emitters.{Emitters}
use Rattle.samples.specs.Memo.{tally_at}
use Rattle.query.specs.Lookups.{operand_at}
use Rattle.samples.specs.Costs.{Costed as Cost, sampled, or_measured, times}
use Rattle.prices.specs.ItemOperands.{item_operands}
use Rattle.samples.specs.declared.sampled.Probe.{Probe}
use Rattle.samples.specs.Remembering.{Remembers}
use Rattle.prices.specs.declared.items.Item.{Item}
use Rattle.prices.specs.Items.{item_fan}
use Rattle.item_pricing.specs.declared.items.Costed.{Costed}

-- the path of a probe: 00 by a child's position, 01 by an element
abbrev pub item_path : Bool → ℕ
item_path true = 1
item_path false = 0

-- a child's position, else 0
abbrev pub item_place : Bool → ℕ → ℕ
item_place true p = 0
item_place false p = p

abbrev pub item_probe : Item → Probe
item_probe x = record { op = x.op; path = item_path x.element; place = item_place x.element x.position }

-- one bound item, at position p
unfoldable pub item_cost : List (List ℕ) → Emitters → ℕ → Bool → ℕ → Operand → Cost → Cost
item_cost fs em o t p x c =
    let s = sampled fs em x o (item_path t) (item_place t p) c.tally in
    record { cost = times c.cost (or_measured s.value (item_fan fs o t p)) (denominator fs o); tally = s.tally }

-- an item, where it is bound
abbrev pub one_cost : List (List ℕ) → Emitters → Bound → ℕ → Bool → ℕ → Operand → Cost → Cost
one_cost fs em B o t p x c = pick (pv_is_bound B x) (item_cost fs em o t p x c) c

-- the items that are bound, from position p on
unfoldable pub item_costs : List (List ℕ) → Emitters → Bound → ℕ → Bool → ℕ → List Operand → Cost → Cost
item_costs fs em B o t p [] c = c
item_costs fs em B o t p (x ∷ xs) c = item_costs fs em B o t (suc p) xs (one_cost fs em B o t p x c)

-- the cost behind an item of the frame f
abbrev pub cost_behind : List (List ℕ) → Emitters → List ℕ → Item → Cost → Cost
cost_behind fs em f x c = pick x.bound (item_cost fs em x.op x.element x.position (operand_at f x.at) c) c

-- the cost behind all items of the frame f
abbrev pub frame_costs : List (List ℕ) → Emitters → Bound → List ℕ → Cost → Cost
frame_costs fs em B f c = item_costs fs em B (get_or f 2 0) (ltb 6 (get_or f 0 0)) 0 (item_operands f) c

-- what a cost and an array of keys stand for
abbrev pub cost_at : List ℕ → Costed → Cost
cost_at keys c = record { cost = c.cost; tally = tally_at keys c.tallies }

-- r is the cost c, and the arrays are what is remembered behind it
pub record Stands (fs : List (List ℕ)) (how : Sampled) (keys : List ℕ) (values : List Float) (r : Costed) (c : Cost) : Type 0 where
  pub cost : r.cost ≡ c.cost
  pub tally : tally_at keys r.tallies ≡ c.tally
  pub memo : Remembers fs how keys values r.tallies
