-- What an atom's kind says of its cost. Proved kind by kind.
use Rattle.cost.specs.Settings.{Sampled}
use Prim.Native.Nat.{ℕ, ◌≤◌}
use mathlib.Core.Path.{◌≡◌, refl, sym, subst, ◌∙◌}
use mathlib.Core.Bool.{Bool, true, false, not}
use mathlib.Core.List.{List, ◌∷◌}
use lib.Dec.{T}
use lib.Ieee.{Float}
use lib.ListN.{length, get_or}
use borrow.Author.Tests.{not-true, not-false}
use Rattle.hexadecimal.specs.Choose.{pick}
use Rattle.cost.specs.Faults.{is_atom}
use Rattle.cost.specs.Kinds.{kinds, kind_at}
use Rattle.cost.specs.Selectivity.{zero64}
use Rattle.cost.specs.Statistics.{base_card}
use Rattle.cost.specs.Atoms.{Atom, Plain, Lit, LitBind, Eq, EqGlobal, Pred, Variadic}
use Rattle.cost.specs.Bound.{Bound, has}
use Rattle.cost.specs.Scheduling.{scans}
use Rattle.cost.specs.Sampling.{Tally}
use Rattle.cost.specs.Emitters.{Emitters}
use Rattle.cost.specs.Memo.{tally_at}
use Rattle.cost.specs.QueryAtoms.{operands_from, atom_of_frame}
use Rattle.cost.specs.Costs.{Costed as Cost, child_costs, element_costs, by_repr_cost, estimate_cost}
use Rattle.cost.specs.declared.memo.Sampling.{Sampling}
use Rattle.lowering.specs.AtomLines.{AtomLine}
use Rattle.binding.specs.ItemOperands.{item_operands}
use Rattle.lowering.proofs.AtomLaws.{by_kind}
use Rattle.item_pricing.specs.ItemCosts.{item_costs, frame_costs, Stands, cost_at}
use Rattle.pricing.specs.LiteralKinds.{literal_kind}
use Rattle.prices.specs.Prices.{AtomPrices}
use Rattle.item_pricing.specs.Remembering.{Remembers}
use Rattle.item_pricing.specs.declared.items.Costed.{Costed}
use Rattle.pricing.proofs.ItemsLaws.{children_are, elements_are}
use Rattle.prices.proofs.PriceLaws.{row_base, row_node}

module _ (fs : List (List ℕ)) (em : Emitters) (B : Bound) (i : ℕ) (t : Tally) where
  -- 04, 05, 06
  test_cost : (a : Atom) → scans a ≡ false → estimate_cost fs em B i a t ≡ record { cost = zero64; tally = t }
  unfolding estimate_cost
  test_cost (Plain n o cs) h = absurd (subst T h tt)
  test_cost (Lit n o x) h = absurd (subst T h tt)
  test_cost (LitBind n o l) h = absurd (subst T h tt)
  test_cost (Eq a b) h = refl
  test_cost (EqGlobal a g) h = refl
  test_cost (Pred g ds) h = refl
  test_cost (Variadic n o cs f) h = absurd (subst T h tt)

  -- an atom that scans: its base cost
  abbrev base_of : List ℕ → Cost
  base_of f = record { cost = base_card fs (get_or f 2 0) i; tally = t }

  -- 02, 03
  literal_cost : (f : List ℕ) → is_atom (get_or f 0 0) ≡ true → literal_kind (get_or f 0 0) ≡ true → estimate_cost fs em B i (atom_of_frame f) t ≡ base_of f
  unfolding estimate_cost atom_of_frame
  literal_cost = by_kind (λ f. literal_kind (get_or f 0 0) ≡ true → estimate_cost fs em B i (atom_of_frame f) t ≡ base_of f) (λ r h. no h) (λ r h. refl) (λ r h. refl) (λ r h. no h) (λ r h. no h) (λ r h. no h) (λ r h. no h) (λ r h. no h) (λ r h. no h) (λ r h. no h) (λ r h. no h) (λ r h. no h) (λ r h. no h) (λ r h. no h)
    where
      no : {X : Type 0} → false ≡ true → X
      no h = absurd (subst T (sym h) tt)

  -- by the node where it is bound, else by the items
  abbrev by_node_or : List ℕ → Cost → Cost
  by_node_or f z = pick (has B (get_or f 1 0)) (by_repr_cost fs (get_or f 2 0) i t) z

  -- 01, and 07 to 0e
  scan_cost : (f : List ℕ) → is_atom (get_or f 0 0) ≡ true → scans (atom_of_frame f) ≡ true → literal_kind (get_or f 0 0) ≡ false → estimate_cost fs em B i (atom_of_frame f) t ≡ by_node_or f (frame_costs fs em B f (base_of f))
  unfolding estimate_cost atom_of_frame operands_from kinds kind_at
  scan_cost = by_kind (λ f. scans (atom_of_frame f) ≡ true → literal_kind (get_or f 0 0) ≡ false → estimate_cost fs em B i (atom_of_frame f) t ≡ by_node_or f (frame_costs fs em B f (base_of f))) (λ r s h. children r) (λ r s h. no h) (λ r s h. no h) (λ r s h. no (sym s)) (λ r s h. no (sym s)) (λ r s h. no (sym s)) (λ r s h. elements 0x07 r) (λ r s h. elements 0x08 r) (λ r s h. elements 0x09 r) (λ r s h. elements 0x0a r) (λ r s h. elements 0x0b r) (λ r s h. elements 0x0c r) (λ r s h. elements 0x0d r) (λ r s h. elements 0x0e r)
    where
      no : {X : Type 0} → true ≡ false → X
      no h = absurd (subst T h tt)

      children : (r : List ℕ) → by_node_or (0x01 ∷ r) (child_costs fs em B (get_or r 1 0) 0 (item_operands (0x01 ∷ r)) (base_of (0x01 ∷ r))) ≡ by_node_or (0x01 ∷ r) (item_costs fs em B (get_or r 1 0) false 0 (item_operands (0x01 ∷ r)) (base_of (0x01 ∷ r)))
      children r = rw (children_are fs em B (get_or r 1 0) (item_operands (0x01 ∷ r)) 0 (base_of (0x01 ∷ r)))

      elements : (k : ℕ) (r : List ℕ) → by_node_or (k ∷ r) (element_costs fs em B (get_or r 1 0) (item_operands (k ∷ r)) (base_of (k ∷ r))) ≡ by_node_or (k ∷ r) (item_costs fs em B (get_or r 1 0) true 0 (item_operands (k ∷ r)) (base_of (k ∷ r)))
      elements k r = rw (elements_are fs em B (get_or r 1 0) (item_operands (k ∷ r)) 0 (base_of (k ∷ r)))

-- ---- a line by its kind

module _ (fs : List (List ℕ)) (em : Emitters) (B : Bound) (i : ℕ) (f ks : List ℕ) (s : Sampling) (b : Bool) (hb : b ≡ scans (atom_of_frame f)) where
  pub test_stands : (how : Sampled) (xs : List Float) → not b ≡ true → Remembers fs how ks xs s → Stands fs how ks xs (record { cost = zero64; tallies = s }) (estimate_cost fs em B i (atom_of_frame f) (tally_at ks s))
  test_stands how xs h m = rw (test_cost fs em B i (tally_at ks s) (atom_of_frame f) (sym hb ∙ not-true b h)) record { cost = refl; tally = refl; memo = m }

  module _ (line : AtomLine f) (ps : List Float) (w : AtomPrices fs f i ps) (d : Float) (k : ℕ) (hk : k ≡ get_or f 0 0) (l : Bool) (hl : l ≡ literal_kind k) where
    pub literal_stands : (how : Sampled) (xs : List Float) → l ≡ true → Remembers fs how ks xs s → Stands fs how ks xs (record { cost = get_or ps 0 d; tallies = s }) (estimate_cost fs em B i (atom_of_frame f) (tally_at ks s))
    literal_stands how xs h m = rw (literal_cost fs em B i (tally_at ks s) f line.kind (rw (← hk) (sym hl ∙ h))) record { cost = row_base fs f i ps w d; tally = refl; memo = m }

    module _ (hs : not b ≡ false) (h : l ≡ false) (v : ℕ) (hv : v ≡ get_or f 1 0) (u : Bool) (hu : u ≡ has B v) where
      by_node : estimate_cost fs em B i (atom_of_frame f) (tally_at ks s) ≡ pick u (by_repr_cost fs (get_or f 2 0) i (tally_at ks s)) (frame_costs fs em B f (record { cost = base_card fs (get_or f 2 0) i; tally = tally_at ks s }))
      by_node = scan_cost fs em B i (tally_at ks s) f line.kind (sym hb ∙ not-false b hs) (rw (← hk) (sym hl ∙ h)) ∙ rw (hu, hv)

      pub node_stands : (how : Sampled) (xs : List Float) → u ≡ true → Remembers fs how ks xs s → Stands fs how ks xs (record { cost = get_or ps 1 d; tallies = s }) (estimate_cost fs em B i (atom_of_frame f) (tally_at ks s))
      node_stands how xs g m = rw (by_node, g) record { cost = row_node fs f i ps w d; tally = refl; memo = m }

      module _ (g : u ≡ false) where
        by_items : estimate_cost fs em B i (atom_of_frame f) (tally_at ks s) ≡ frame_costs fs em B f (cost_at ks (record { cost = get_or ps 0 d; tallies = s }))
        by_items = by_node ∙ rw (g, row_base fs f i ps w d)

        pub items_room : length (estimate_cost fs em B i (atom_of_frame f) (tally_at ks s)).tally.memo ≤ length ks → length (frame_costs fs em B f (cost_at ks (record { cost = get_or ps 0 d; tallies = s }))).tally.memo ≤ length ks
        items_room z = rw by_items at z

        pub items_stand : (how : Sampled) (ks' : List ℕ) (xs : List Float) (r : Costed) → Stands fs how ks' xs r (frame_costs fs em B f (cost_at ks (record { cost = get_or ps 0 d; tallies = s }))) → Stands fs how ks' xs r (estimate_cost fs em B i (atom_of_frame f) (tally_at ks s))
        items_stand how ks' xs r a = rw by_items a
