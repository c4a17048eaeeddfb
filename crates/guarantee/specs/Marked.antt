-- "The marked ones, together in a single statement over a table": the planner's examples and numbers, and the runner's.
use Rattle.std.specs.Prelude.{◌≡◌, map}
use Rattle.planner.specs.Marked as plans
use Rattle.fair_plans.specs.Examples as examples

pub marked : (map plans.answered plans.table ≡ map (λ (r : plans.PlanCase). record { answer = r.says; output = r.leaves }) plans.table)
    × ((map (λ (m : plans.Mark). m.bits) plans.numbers ≡ map (λ (m : plans.Mark). m.is) plans.numbers)
    × (map examples.answered examples.table ≡ map (λ (r : examples.RunCase). record { outcome = r.says; output = r.leaves }) examples.table))
marked = ((plans.right).0, ((plans.right).1, examples.right))
