-- A query whose plan has the most steps and bytes. Computed.
use Rattle.std.specs.Prelude.{◌≡◌, refl, ℕ, zero, suc, ◌+◌, ◌<◌, ltb, length, replicate}
use Rattle.std.proofs.Common.{◌∙◌, ap, arith}
use mathlib.Core.List.{List, map, flat_map}
use Rattle.plans.specs.Tabulate.{tabulate}
use Rattle.plans.proofs.TabulateLaws.{tabulate_length}
use Rattle.plans.specs.Atoms.{global, Atom, Plain}
use Rattle.plans.specs.Bound.{put, blank}
use Rattle.plans.specs.Lowering.{mark_all, emit_read_children, child_lookups, lower}
use Rattle.plans.specs.Scheduling.{State, unlowered, Chosen, Fair, eager_pass, passes_up_to, rounds_up_to, atom_of, numbers, schedule}
use Rattle.plans.specs.Cheapest.{Priced, scan, cheapest}
use Rattle.plans.proofs.CheapestLaws.{cheapest_fair}
use Rattle.plans.specs.Items.{Each}
use Rattle.plans.specs.StepFrames.{frame_of, AtomFits}
use Rattle.plans.specs.PlanText.{text_length, plan_text, plan_counts, plan_most, QueryFits}
use Rattle.plans.proofs.PlanRead.{plan_length}

-- 64 Plains of 16 globals each: every Join has 17 lookups, and every child is checked
unfoldable pub widest : List Atom
widest = tabulate 64 (λ i. Plain i 0 (replicate 16 (global 0)))

unfoldable pub cost : Unit {0} → State → ℕ → Priced (Unit {0}) ℕ
cost x s i = record { price = 0; next = tt }

unfoldable pub choose : Unit {0} → State → Chosen (Unit {0})
choose = cheapest (atom_of widest) (numbers widest) cost ltb

widest_lines : text_length (map frame_of (schedule widest choose tt).steps) ≡ 20544
unfolding choose cheapest scan cost widest atom_of rounds_up_to passes_up_to eager_pass unlowered tabulate lower emit_read_children mark_all child_lookups put blank text_length frame_of flat_map
widest_lines = refl

each_tabulate : {X : Type 0} (P : X → Type 0) (n : ℕ) (f : ℕ → X) → ((i : ℕ) → i < n → P (f i)) → Each P (tabulate n f)
unfolding tabulate
each_tabulate P zero f h = tt
each_tabulate P (suc n) f h = (h 0 (omega arith), each_tabulate P n (λ i. f (suc i)) (λ i k. h (suc i) (omega arith)))

-- it is within the limits, and no plan is longer: `few_steps` and `few_bytes` of Longest
pub widest_fair : Fair (atom_of widest) (numbers widest) choose
unfolding choose
widest_fair = cheapest_fair (atom_of widest) (numbers widest) cost ltb

pub widest_fits : QueryFits 64 1 0 0 0 widest
unfolding widest
widest_fits = record {
  variables_few = omega arith;
  globals_few = omega arith;
  literals_few = omega arith;
  atoms_few = omega (arith, tabulate_length 64 (λ i. Plain i 0 (replicate 16 (global 0))));
  atoms = each_tabulate (AtomFits (plan_counts 64 1 0)) 64 (λ i. Plain i 0 (replicate 16 (global 0))) (λ i h. (h, omega arith, (omega arith, omega arith)));
  tallied_few = omega arith;
  rejected_few = omega arith;
}

pub widest_steps : length (schedule widest choose tt).steps ≡ 1088
unfolding choose cheapest scan cost widest atom_of rounds_up_to passes_up_to eager_pass unlowered tabulate lower emit_read_children mark_all child_lookups put blank
widest_steps = refl

pub widest_bytes : length (plan_text 64 1 0 0 0 (schedule widest choose tt).steps) ≡ plan_most
widest_bytes = plan_length 64 1 0 0 0 (schedule widest choose tt).steps ∙ ap (λ (m : ℕ). 21 + m) widest_lines
