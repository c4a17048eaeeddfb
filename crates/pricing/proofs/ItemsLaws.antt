-- The cost of the items of an atom, one behind the other. Proved by induction on how many.
use Rattle.cost.specs.Settings.{Sampled}
use Prim.Native.Nat.{ℕ, suc, ◌+◌, ◌-◌, ◌*◌, ◌<◌, ◌≤◌}
use mathlib.Core.Path.{◌≡◌, refl, sym, ◌∙◌, subst}
use mathlib.Core.Bool.{Bool, true, false}
use mathlib.Core.List.{List, [], ◌∷◌}
use native.Mathlib.Omega.{arith}
use native.Mathlib.Numerals.{add-one}
use lib.Ieee.{Float}
use lib.ListN.{length}
use Rattle.cost.specs.Atoms.{Operand}
use Rattle.cost.specs.Bound.{Bound}
use Rattle.cost.specs.Emitters.{Emitters}
use Rattle.cost.specs.QueryAtoms.{operands_from}
use Rattle.cost.specs.Costs.{Costed as Cost, child_costs, element_costs}
use Rattle.item_pricing.proofs.Remembered.{children_grow, elements_grow}
use Rattle.binding.proofs.OperandLaws.{operands_more}
use Rattle.item_pricing.specs.ItemCosts.{item_cost, one_cost, item_costs, cost_behind, frame_costs, Stands, cost_at}
use Rattle.prices.specs.Items.{ItemsOf, item_at}
use Rattle.item_pricing.specs.Remembering.{Remembers}
use Rattle.item_pricing.specs.declared.items.Costed.{Costed}
use Rattle.prices.specs.declared.items.Items.{Items}
use Rattle.prices.specs.declared.items.Item.{Item}

module _ (fs : List (List ℕ)) (em : Emitters) (B : Bound) (o : ℕ) where
  pub children_are : (cs : List Operand) (p : ℕ) (c : Cost) → item_costs fs em B o false p cs c ≡ child_costs fs em B o p cs c
  unfolding item_cost item_costs child_costs
  children_are [] p c = refl
  children_are (x ∷ cs) p c = children_are cs (suc p) (one_cost fs em B o false p x c)

  pub elements_are : (cs : List Operand) (p : ℕ) (c : Cost) → item_costs fs em B o true p cs c ≡ element_costs fs em B o cs c
  unfolding item_cost item_costs element_costs
  elements_are [] p c = refl
  elements_are (x ∷ cs) p c = elements_are cs (suc p) (one_cost fs em B o true p x c)

  items_grow : (t : Bool) (p : ℕ) (cs : List Operand) (c : Cost) → length c.tally.memo ≤ length (item_costs fs em B o t p cs c).tally.memo
  items_grow true p cs c = rw (elements_are cs p c) (elements_grow fs em B o cs c).more
  items_grow false p cs c = rw (children_are cs p c) (children_grow fs em B o p cs c).more

stands_cost : (fs : List (List ℕ)) (how : Sampled) (ks : List ℕ) (xs : List Float) (r : Costed) (c : Cost) → Stands fs how ks xs r c → cost_at ks r ≡ c
stands_cost fs how ks xs r c a = rw (a.cost, a.tally)

items_none : (fs : List (List ℕ)) (em : Emitters) (B : Bound) (f : List ℕ) (o p i w : ℕ) (t : Bool) (c : Cost) → item_costs fs em B o t p (operands_from f i w 0) c ≡ c
unfolding item_costs operands_from
items_none fs em B f o p i w t c = refl

stands_at : (fs : List (List ℕ)) (how : Sampled) (ks : List ℕ) (xs : List Float) (r : Costed) (c : Cost) → Remembers fs how ks xs r.tallies → cost_at ks r ≡ c → Stands fs how ks xs r c
stands_at fs how ks xs r c m e = rw (← e) record { cost = refl; tally = refl; memo = m }

-- k items are counted, and those left give the rest
pub record Counting (fs : List (List ℕ)) (em : Emitters) (B : Bound) (f : List ℕ) (g : Items) (how : Sampled) (ks₀ : List ℕ) (xs₀ : List Float) (c₀ : Costed) (ks : List ℕ) (xs : List Float) (c : Costed) (k : ℕ) : Type 0 where
  pub few : k ≤ g.count
  pub place : g.first + g.width * k ≤ 255 + 255 * k
  pub keys : length ks ≡ length ks₀
  pub places : length xs ≡ length xs₀
  pub memo : Remembers fs how ks xs c.tallies
  pub is : item_costs fs em B g.op g.elements k (operands_from f (g.first + g.width * k) g.width (g.count - k)) (cost_at ks c) ≡ frame_costs fs em B f (cost_at ks₀ c₀)

module _ (fs : List (List ℕ)) (em : Emitters) (B : Bound) (f : List ℕ) (g : Items) (how : Sampled) (ks₀ : List ℕ) (xs₀ : List Float) (c₀ : Costed) where
  pub counting_none : ItemsOf f g → Remembers fs how ks₀ xs₀ c₀.tallies → Counting fs em B f g how ks₀ xs₀ c₀ ks₀ xs₀ c₀ 0
  counting_none z m =
      let e : g.count - 0 ≡ g.count = omega arith in
      let p : g.first + g.width * 0 ≡ g.first = omega arith in
      record { few = omega arith; place = omega (arith, z.early); keys = refl; places = refl; memo = m; is = rw (e, p, z.first, z.width, z.count, z.op, z.elements) }

  module _ (ks : List ℕ) (xs : List Float) (c : Costed) (k : ℕ) (m : Counting fs em B f g how ks₀ xs₀ c₀ ks xs c k) where
    next_is : k < g.count → item_costs fs em B g.op g.elements (k + 1) (operands_from f (g.first + g.width * (k + 1)) g.width (g.count - (k + 1))) (cost_behind fs em f (item_at f g k B) (cost_at ks c)) ≡ frame_costs fs em B f (cost_at ks₀ c₀)
    unfolding item_costs
    next_is h = rw (add-one k) (rw (operands_more f g.first g.width g.count k h, add-one k) at m.is)

    pub next_small : ItemsOf f g → k < g.count → (k < 256) × (g.first + g.width * k < 65536)
    next_small z h = (omega (arith, z.few), omega (arith, z.few, m.place))

    module _ (x : Item) (hx : x ≡ item_at f g k B) (h : k < g.count) where
      pub next_at_lem : ItemsOf f g → x.at < 65536
      next_at_lem z = rw hx (omega (arith, z.few, m.place))

      pub next_room : length (frame_costs fs em B f (cost_at ks₀ c₀)).tally.memo ≤ length ks₀ → length (cost_behind fs em f x (cost_at ks c)).tally.memo ≤ length ks
      next_room l =
          rw hx (omega (arith, m.keys, l, rw (next_is h) at (items_grow fs em B g.op g.elements (k + 1) (operands_from f (g.first + g.width * (k + 1)) g.width (g.count - (k + 1))) (cost_behind fs em f (item_at f g k B) (cost_at ks c)))))

      pub counting_again : (ks' : List ℕ) (xs' : List Float) (r : Costed) → ItemsOf f g → length ks' ≡ length ks → length xs' ≡ length xs → Stands fs c.tallies.how ks' xs' r (cost_behind fs em f x (cost_at ks c)) → Counting fs em B f g how ks₀ xs₀ c₀ ks' xs' r (k + 1)
      counting_again ks' xs' r z q1 q3 b = let a : Stands fs how ks' xs' r (cost_behind fs em f x (cost_at ks c)) = subst (λ (h : Sampled). Stands fs h ks' xs' r (cost_behind fs em f x (cost_at ks c))) m.memo.set b in record {
        few = omega arith;
        place = omega (arith, m.place, z.narrow);
        keys = q1 ∙ m.keys;
        places = q3 ∙ m.places;
        memo = a.memo;
        is = rw (stands_cost fs how ks' xs' r _ a, hx) (next_is h);
      }

    none_left : g.count ≤ k → cost_at ks c ≡ frame_costs fs em B f (cost_at ks₀ c₀)
    none_left h =
        let e : g.count - k ≡ 0 = omega arith in
        sym (items_none fs em B f g.op k (g.first + g.width * k) g.width g.elements (cost_at ks c)) ∙ rw e at m.is

    pub counting_all : g.count ≤ k → Stands fs how ks xs c (frame_costs fs em B f (cost_at ks₀ c₀))
    counting_all h = stands_at fs how ks xs c _ m.memo (none_left h)
